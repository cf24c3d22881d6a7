-- What is read after a version.
use Rattle.std.proofs.Common.{◌≡◌, ℕ, List, Result, Ok, Err, refl, ap, ◌∙◌}
use Rattle.pli_code.specs.declared.fault.DeckFault.{DeckFault}
use Rattle.pli_code.specs.declared.version.Version.{Version}
use Rattle.pli_base.specs.Results.{◌>>=◌}
use Rattle.pli_code.specs.Fields.{Field, followed, made, shaped}
use Rattle.pli_code.proofs.FieldLaws.{as_shaped, then_second, with_first}

module _ {X Y : Type 0} (f : Field Version) (g : Version → Field X) (to : Version × X → Y) (from : Y → Version × X) where
  joined : (v : Version) (r : Result (X × List ℕ) DeckFault) → ((r >>= with_first v) >>= as_shaped to) ≡ (r >>= as_shaped (λ x. to (v, x)))
  joined v (Ok y) = refl
  joined v (Err d) = refl

  -- where the version was read, what is made of it and of what stands after it
  pub after_version : (bytes : List ℕ) (v : Version) (rest : List ℕ) → f.read bytes ≡ Ok (v, rest) → (shaped to from (followed f g)).read bytes ≡ made (λ x. to (v, x)) (g v) rest
  after_version bytes v rest e = ap (λ r. (r >>= then_second g) >>= as_shaped to) e ∙ joined v ((g v).read rest)
