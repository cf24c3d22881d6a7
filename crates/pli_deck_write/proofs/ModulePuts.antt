-- The bytes of externals, which do not depend on those before them; those of a module, after its head; and decks whose
-- bytes are there.
use Rattle.std.proofs.Common.{◌≡◌, ℕ, zero, suc, ◌<◌, List, [], ◌∷◌, ◌++◌, Option, Some, None, drop, get_or, length, map, refl, sym, ap, ◌∙◌, arith}
use Rattle.std.specs.List.{flat_map}
use Rattle.pli_code.specs.Modules.{External, Module}
use Rattle.pli_deck_write.specs.ModuleFields.{external_after, bytes_after, member, member_bytes, module_field}
use Rattle.pli_deck_write.specs.ModuleSpelling.{module_bytes}
use Rattle.pli_deck_write.specs.answers.ModuleHead.{head_bytes}

abbrev pub external_bytes : External → List ℕ
external_bytes = (external_after None).bytes_of

same_bytes : (before : Option External) (e : External) → (external_after before).bytes_of e ≡ external_bytes e
unfolding external_after
same_bytes before e = refl

pub after_bytes : (before : Option External) (es : List External) → bytes_after external_after before es ≡ flat_map external_bytes es
after_bytes before [] = refl
after_bytes before (e ∷ es) =
    ap (λ bs. bs ++ bytes_after external_after (Some e) es) (same_bytes before e) ∙ ap (λ bs. external_bytes e ++ bs) (after_bytes (Some e) es)

-- the bytes of a module are its head, and its units
pub after_head : (m : Module) → module_bytes m ≡ head_bytes m ++ flat_map member_bytes m.units
unfolding module_field member
after_head m = refl

-- lists that are the same by what is said of them say the same at each place
module _ {X Y Z : Type 0} (f : X → Z) (g : Y → Z) where
  pub same_at : (xs : List X) (ys : List Y) (i : ℕ) (x : X) (y : Y) → map f xs ≡ map g ys → i < length ys → y ≡ get_or ys i y → f (get_or xs i x) ≡ g y
  same_at xs [] i x y same low is = absurd (omega arith)
  same_at [] (w ∷ ws) i x y same low is = absurd (omega (arith, ap length same))
  same_at (v ∷ vs) (w ∷ ws) zero x y same low is = ap (λ zs. get_or zs 0 (g w)) same ∙ sym (ap g is)
  same_at (v ∷ vs) (w ∷ ws) (suc i) x y same low is = same_at vs ws i x y (ap (drop 1) same) (omega arith) is
