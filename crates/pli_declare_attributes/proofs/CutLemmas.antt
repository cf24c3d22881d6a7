-- A count of elements that is cut at the limit changes no fault.
use Rattle.std.proofs.Common.{◌≡◌, ℕ, zero, suc, ◌*◌, ◌≤◌, ◌<◌, min, Bool, not, ◌||◌, ◌&&◌, nat_lt, true, false, if◌then◌else◌, Option, Some, None, option_map, List, [], ◌∷◌, map, arith, ap, inl, inr, refl}
use Rattle.std.specs.List.{list_all}
use Rattle.std.specs.Option.{option_or}
use Rattle.std.proofs.lemmas.Bool.{cases_lt}
use Rattle.std.proofs.lemmas.Bool.Decides.{nat_tests}
use Rattle.pli_base.specs.Declarations as tree
use Rattle.pli_base.specs.declared.code.Code.TheVariants.{BadInitial}
use Rattle.pli_base.specs.declared.declaration.WrittenBounds.{WrittenBounds}
use Rattle.pli_map.specs.Sizes.{count_of}
use Rattle.pli_declare.specs.Sets.{set_of, each_once, outermost, has, area}
use Rattle.pli_declare.specs.Sets as sets
use Rattle.pli_declare.specs.Types.{number_of, scalar_of}
use Rattle.pli_declare.specs.Types as types
use Rattle.pli_declare.specs.Extents.{all_bounds, are_unknown}
use Rattle.pli_declare.specs.Agreement.{set_agrees, is_missing}
use Rattle.pli_declare.specs.Initials.{values_in, fits, all_given, is_more_than, elements_inside, is_bad_initial}
use Rattle.pli_declare.specs.Faults.{first_of, lesser, shape_fault, is_bad_area, area_fault, own_fault, attributes_fault, item_fault, parameters_fault, parameters_in, returned_fault, returned_in, entry_fault}
use Rattle.pli_declare.specs.Completed.{variable_of, completed_of}
use Rattle.pli_declare_attributes.specs.answers.Cuts.{most_elements, cut, cut_place}
use Rattle.pli_declare.specs.declared.place.ItemPlace.{ItemPlace}
use Rattle.pli_declare_attributes.proofs.CountLemmas.{cut_factor}

over : (a m given : ℕ) → most_elements < a → given ≤ most_elements → nat_lt (min a most_elements * suc m) given ≡ nat_lt (a * suc m) given
over a m given far few = grind (arith, nat_tests, far, few)

cut_less : (a m given : ℕ) → given ≤ most_elements → nat_lt (min a most_elements * m) given ≡ nat_lt (a * m) given
cut_less a zero given few = let same : min a most_elements * zero ≡ a * zero = omega arith in ap (λ n. nat_lt n given) same
cut_less a (suc m) given few = elim (cases_lt most_elements a) [
  | inl far ↦ over a m given far few
  | inr near ↦ (let same : min a most_elements ≡ a = omega (arith, near) in ap (λ n. nat_lt (n * suc m) given) same)
]

cut_more : (o : Option ℕ) (m given : ℕ) → given ≤ most_elements → is_more_than (option_map (λ a. a * m) (cut o)) given ≡ is_more_than (option_map (λ a. a * m) o) given
cut_more None m given few = refl
cut_more (Some a) m given few = cut_less a m given few

own_cut : (p : ItemPlace) (i : tree.Item) → all_given (values_in i.attributes) ≤ most_elements → own_fault (cut_place p) i ≡ own_fault p i
unfolding own_fault is_bad_initial shape_fault is_bad_area set_agrees is_missing
own_cut p i few =
    let attributes = map outermost i.attributes in
    let s = set_of attributes in
    let n = number_of attributes in
    let values = values_in i.attributes in
    ap (λ (more : Bool).
    option_or (shape_fault p i.dimensions (each_once 0 attributes) s n (types.has_star attributes))
    (option_or
    (first_of ((has s sets.initial && (p.has_members || has s area || not (list_all (fits (scalar_of s n)) values) || more), BadInitial) ∷ []))
    (area_fault p i.dimensions s)))
    (cut_more p.elements_above (count_of (all_bounds i.dimensions)) (all_given values) few)

attributes_cut : (p : ItemPlace) (i : tree.Item) → all_given (values_in i.attributes) ≤ most_elements → attributes_fault (cut_place p) i ≡ attributes_fault p i
unfolding attributes_fault
attributes_cut p i few = ap (λ f. lesser f (lesser (parameters_fault (parameters_in i.attributes)) (returned_fault (returned_in i.attributes)))) (own_cut p i few)

-- the fault of an item is that at the place with the whole count
pub cut_fault : (p : ItemPlace) (i : tree.Item) → all_given (values_in i.attributes) ≤ most_elements → item_fault (cut_place p) i ≡ item_fault p i
unfolding item_fault
cut_fault p i few = ap (λ f. option_or f (entry_fault (parameters_in i.attributes))) (attributes_cut p i few)

-- what an item is completed to, too
pub cut_completed : (p : ItemPlace) (i : tree.Item) → completed_of (cut_place p) i ≡ completed_of p i
unfolding completed_of variable_of
cut_completed p i = refl

-- a level more, above which the count was cut or not
cut_twice : (a m : ℕ) → min (min a most_elements * m) most_elements ≡ min (a * m) most_elements
cut_twice a m = cut_factor most_elements a m

pub cut_inside : (above : Option ℕ) (dimensions : List WrittenBounds) → cut (elements_inside (cut above) dimensions) ≡ cut (elements_inside above dimensions)
cut_inside above dimensions = by (are_unknown dimensions) above
  where
    by : (b : Bool) (o : Option ℕ)
        → cut (if b then None else option_map (λ count. count * count_of (all_bounds dimensions)) (cut o))
        ≡ cut (if b then None else option_map (λ count. count * count_of (all_bounds dimensions)) o)
    by true o = refl
    by false None = refl
    by false (Some a) = ap Some (cut_twice a (count_of (all_bounds dimensions)))
