-- Units, the sizes of their descriptions, and what they take together.
use Rattle.std.proofs.Common.{◌≡◌, ℕ, zero, suc, ◌+◌, ◌<◌, List, [], ◌∷◌, length, map, drop, get_or, slice_get, Some, Vec, refl, sym, ap, ◌∙◌, arith}
use Rattle.std.specs.Global.{Global}
use Rattle.std.specs.List.{sum_by}
use Rattle.std.proofs.lemmas.List.{at_drop_more}
use Rattle.std.proofs.lemmas.List.Sums.{sum_by-cons}
use Rattle.pli_code.specs.declared.module.Member.{Member}
use Rattle.pli_code.specs.views.CodeView.{member_view}
use Rattle.pli_deck_faults.specs.CutSizes.{unit_sizes}

pub sizes_at : (all : List (Vec ℕ Global)) (units : List Member) (k : ℕ) (sizes : Vec ℕ Global) (other : Member) → map (λ s. s.items) all ≡ map unit_sizes units → k < length units
    → sizes ≡ get_or all k sizes → sizes.items ≡ unit_sizes (get_or units k other)
sizes_at all [] k sizes other e within is = absurd (omega (arith, within))
sizes_at [] (u ∷ units) k sizes other e within is = absurd cc
sizes_at (s ∷ all) (u ∷ units) zero sizes other e within is =
    let same : s.items ≡ unit_sizes u = cc in
    ap (λ t. t.items) is ∙ same
sizes_at (s ∷ all) (u ∷ units) (suc k) sizes other e within is =
    let rest : map (λ s. s.items) all ≡ map unit_sizes units = cc in
    sizes_at all units k sizes other rest (omega (arith, within)) is

pub unit_there : (units : List Member) (k : ℕ) (other : Member) → k < length units → slice_get (map member_view units) k ≡ Some (member_view (get_or units k other))
unit_there [] k other within = absurd (omega (arith, within))
unit_there (u ∷ units) zero other within = refl
unit_there (u ∷ units) (suc k) other within = unit_there units k other (omega (arith, within))

-- what is left of a list begins with the current item
pub next_said : {X Y : Type 0} (view : X → Y) (xs : List X) (i : ℕ) (x : X) → i < length xs → x ≡ get_or xs i x
    → map view (drop i xs) ≡ view x ∷ map view (drop (i + 1) xs)
next_said view xs i x within is = at_drop_more (map view) xs i x within ∙ ap (λ y. view y ∷ map view (drop (i + 1) xs)) (sym is)

-- one takes more than is left
pub over_by_one : {X : Type 0} (f : X → ℕ) (all rest : List X) (x : X) (left bytes total : ℕ) → all ≡ x ∷ rest → left + total ≡ bytes + sum_by f all → left < f x → bytes < total
over_by_one f all rest x left bytes total is so_far over =
    let whole : sum_by f all ≡ f x + sum_by f rest = ap (sum_by f) is ∙ sum_by-cons f x rest in
    omega (arith, whole, so_far, over)

-- one is taken
pub one_after : {X : Type 0} (f : X → ℕ) (all rest : List X) (x : X) (left next bytes total : ℕ) → all ≡ x ∷ rest → left + total ≡ bytes + sum_by f all → next + f x ≡ left
    → next + total ≡ bytes + sum_by f rest
one_after f all rest x left next bytes total is so_far taken =
    let whole : sum_by f all ≡ f x + sum_by f rest = ap (sum_by f) is ∙ sum_by-cons f x rest in
    omega (arith, whole, so_far, taken)
