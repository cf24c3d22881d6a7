-- The parameters that marks give to a block.
use Rattle.std.proofs.Common.{◌≡◌, ◌≢◌, ℕ, ◌==◌, Bool, true, false, List, [], map, refl, ap, if◌then◌else◌}
use Rattle.std.specs.List.{flat_map}
use Rattle.std.proofs.lemmas.Bool.{eqb-true, eq-eqb}
use Rattle.pli_base.specs.Name.{Name}
use Rattle.pli_base.specs.Statements.{Heading}
use Rattle.pli_declare_outline.specs.Outlines.{Entered, PlacedMark}
use Rattle.pli_declare.specs.Resolution.{headed}

abbrev pub gathered : List PlacedMark → ℕ → List Name
gathered marks b = flat_map (λ p. headed b p.mark) marks

pub not_equal : (a b : ℕ) → a ≢ b → (a == b) ≡ false
not_equal a b h = by (a == b) refl
  where
    by : (t : Bool) → (a == b) ≡ t → t ≡ false
    by true e = absurd (h (eqb-true a b e))
    by false e = refl

pub headed_elsewhere : (heading : Heading) (region b : ℕ) → region ≢ b → headed b (Entered heading region) ≡ []
headed_elsewhere heading region b h = ap (λ t. if t then map (λ i. i.name) heading.parameters else []) (not_equal region b h)

pub headed_here : (heading : Heading) (region : ℕ) → headed region (Entered heading region) ≡ map (λ i. i.name) heading.parameters
headed_here heading region = ap (λ t. if t then map (λ i. i.name) heading.parameters else []) (eq-eqb region region refl)
