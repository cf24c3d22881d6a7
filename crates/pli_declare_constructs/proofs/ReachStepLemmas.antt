-- A GOTO's way outwards, step by step.
use Rattle.std.proofs.Common.{◌≡◌, ◌<◌, ◌≤◌, ℕ, Bool, true, false, not, ◌&&◌, ◌==◌, List, [], Option, Some, None, length, get_or, refl, ap, ◌∙◌, if◌then◌else◌}
use Rattle.pli_declare_outline.specs.Outlines.{Region}
use Rattle.pli_declare_constructs.specs.Regions.{round_of, rounds_after, outside}
use Rattle.pli_declare_constructs.specs.Reach.{is_group}
use Rattle.pli_declare_constructs.specs.answers.ReachSteps.{left_on_unit, reaches_through}
use Rattle.std.proofs.lemmas.Bool.{eq-eqb, eqb-true, lt-ltb, le-ltb}
use Rattle.pli_declare_constructs.proofs.RegionsAround.{before, round_step, round_past}

-- beyond the last region nothing is reached
pub reach_past : (rs : List Region) (left : Bool) (here label : ℕ) → length rs ≤ here → reaches_through rs left (round_of rs here) label ≡ false
reach_past rs left here label past = ap (λ (ns : List ℕ). reaches_through rs left ns label) (round_past rs here past)

module _ (rs : List Region) (left : Bool) (here label : ℕ) (lt : here < length rs) (r : Region) (is : get_or rs here outside ≡ r) where
  abbrev along : List ℕ → Bool
  along ns = reaches_through rs (left_on_unit left r.kind) ns label

  abbrev further : Option ℕ → Bool
  further outer = along (before (rounds_after [] rs) here outer)

  step : reaches_through rs left (round_of rs here) label ≡ (if here == label then not (left && is_group r.kind) else further r.outer)
  step =
      ap (λ (ns : List ℕ). reaches_through rs left ns label) (round_step rs here lt)
      ∙ ap (λ (r : Region). if here == label then not (left && is_group r.kind) else reaches_through rs (left_on_unit left r.kind) (before (rounds_after [] rs) here r.outer) label) is

  pub reach_here : here ≡ label → reaches_through rs left (round_of rs here) label ≡ not (left && is_group r.kind)
  reach_here e = step ∙ ap (λ (b : Bool). if b then not (left && is_group r.kind) else further r.outer) (eq-eqb here label e)

  beyond : (here ≡ label → ⊥) → reaches_through rs left (round_of rs here) label ≡ further r.outer
  beyond ne = step ∙ ap (λ (b : Bool). if b then not (left && is_group r.kind) else further r.outer) (by (here == label) refl)
    where
      by : (b : Bool) → (here == label) ≡ b → b ≡ false
      by true e = absurd (ne (eqb-true here label e))
      by false e = refl

  pub reach_none : (here ≡ label → ⊥) → r.outer ≡ None → reaches_through rs left (round_of rs here) label ≡ false
  reach_none ne none = beyond ne ∙ ap further none

  pub reach_after : (here ≡ label → ⊥) → (o : ℕ) → r.outer ≡ Some o → here ≤ o → reaches_through rs left (round_of rs here) label ≡ false
  reach_after ne o some le = beyond ne ∙ ap further some ∙ ap (λ (b : Bool). along (if b then round_of rs o else [])) (le-ltb o here le)

  pub reach_outer : (here ≡ label → ⊥) → (o : ℕ) → r.outer ≡ Some o → o < here → reaches_through rs left (round_of rs here) label ≡ along (round_of rs o)
  reach_outer ne o some before_it = beyond ne ∙ ap further some ∙ ap (λ (b : Bool). along (if b then round_of rs o else [])) (lt-ltb o here before_it)
