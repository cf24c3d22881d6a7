-- The types of parameters without a fault are within the limits.
use Rattle.std.proofs.Common.{◌≡◌, ℕ, ◌<◌, ◌≤◌, ◌||◌, ◌&&◌, Bool, true, false, not, if◌then◌else◌, Option, Some, None, List, [], ◌∷◌, map, length, inl, inr, refl, ◌∙◌, arith}
use Rattle.std.specs.Int.RustNames.{bit_and}
use Rattle.std.proofs.lemmas.Bool.{and_parts, lt-ltb}
use Rattle.pli_base.specs.Declarations as tree
use Rattle.pli_base.specs.declared.code.Code.TheVariants.{AreaNotAllowedHere}
use Rattle.pli_base.specs.declared.declaration.WrittenBounds.{WrittenBounds}
use Rattle.pli_map.specs.Description.{Description, FixedBinary, Character, Varying, Bit, Pointer, Offset, Area, Array, Structure}
use Rattle.pli_map.specs.ParameterTypes.{Stated, AnyArray}
use Rattle.pli_map.specs.Scalars.{is_area}
use Rattle.pli_map.specs.Sizes.{size_of}
use Rattle.pli_declare.specs.Agreement.{is_parameter, is_member, is_at_level_one, may_be_open, set_agrees}
use Rattle.pli_declare.specs.Completed.{open_type, variable_of}
use Rattle.pli_declare.specs.Extents.{are_bad_bounds, all_bounds, has_star, is_array}
use Rattle.pli_declare.specs.Faults.{first_of, area_fault, own_fault, description_fault, is_bad_area, item_fault, entry_fault, parameters_in, parameter_place, parameter_fault, parameter_of, described_scalar, type_taken, with_type_bounds}
use Rattle.pli_declare.specs.Sets.{has, area, based, outermost, set_of, each_once}
use Rattle.pli_declare.specs.Types.{number_of, element_of, scalar_of}
use Rattle.pli_declare.specs.Types as types
use Rattle.pli_declare_attributes.specs.laws.Laws.{IsScalar}
use Rattle.pli_declare.specs.declared.place.ItemPlace.{ItemPlace}
use Rattle.pli_declare.specs.declared.place.Position.{Position}
use Rattle.pli_declare.specs.declared.place.Position.TheVariants.{AtLevelOne, Member, Parameter, Result}
use Rattle.pli_declare_attributes.proofs.LimitLemmas.{IsWhole, in_data, variable_whole}
use Rattle.pli_declare_attributes.proofs.LimitsOfItems.{parameters_are_of_scalars}
use Rattle.pli_declare.proofs.ShapeLemmas.{bounds_good, few_dimensions, description_sound, own_sound, or_none, parts_none}
use Rattle.pli_deck_laws.specs.Limits.{IfThere}
use Rattle.pli_deck_laws.specs.Limits.{IsElement, IsOpenElement}
use Rattle.pli_resolve_bounds.specs.SymbolBounds.{IsTaken}
use Rattle.pli_resolve_bounds.proofs.Descriptions.{bounds_near, bounds_few, bounded, scalar_described, scalar_here, shape_agrees, inner_variable}

-- ---- elements

scalar_element : (d : Description) → IsScalar d → is_area d ≡ false → IsElement d
scalar_element (FixedBinary p) h k = h
scalar_element (Character n) h k = h
scalar_element (Varying n) h k = h
scalar_element (Bit n) h k = h
scalar_element Pointer h k = tt
scalar_element Offset h k = tt
scalar_element (Area n) h k = cc
scalar_element (Array bounds element) h k = absurd h
scalar_element (Structure ds) h k = absurd h

-- one whole data type that is not AREA says no area
no_area : (s : ℕ) (n : Option ℕ) → IsWhole (bit_and s 255) → has s 128 ≡ false → is_area (scalar_of s n) ≡ false
unfolding scalar_of
no_area s n (inl x) h =
    let f : has s 1 ≡ true = in_data s 1 3 x refl in
    rw f refl
no_area s n (inr (inl x)) h =
    let f : has s 1 ≡ false = in_data s 1 4 x refl in
    let v : has s 8 ≡ false = in_data s 8 4 x refl in
    let c : has s 4 ≡ true = in_data s 4 4 x refl in
    rw (f, v, c) refl
no_area s n (inr (inr (inl x))) h =
    let f : has s 1 ≡ false = in_data s 1 12 x refl in
    let v : has s 8 ≡ true = in_data s 8 12 x refl in
    rw (f, v) refl
no_area s n (inr (inr (inr (inl x)))) h =
    let f : has s 1 ≡ false = in_data s 1 16 x refl in
    let v : has s 8 ≡ false = in_data s 8 16 x refl in
    let c : has s 4 ≡ false = in_data s 4 16 x refl in
    let b : has s 16 ≡ true = in_data s 16 16 x refl in
    rw (f, v, c, b) refl
no_area s n (inr (inr (inr (inr (inl x))))) h =
    let f : has s 1 ≡ false = in_data s 1 32 x refl in
    let v : has s 8 ≡ false = in_data s 8 32 x refl in
    let c : has s 4 ≡ false = in_data s 4 32 x refl in
    let b : has s 16 ≡ false = in_data s 16 32 x refl in
    let o : has s 32 ≡ true = in_data s 32 32 x refl in
    rw (f, v, c, b, o) refl
no_area s n (inr (inr (inr (inr (inr (inl x)))))) h =
    let f : has s 1 ≡ false = in_data s 1 64 x refl in
    let v : has s 8 ≡ false = in_data s 8 64 x refl in
    let c : has s 4 ≡ false = in_data s 4 64 x refl in
    let b : has s 16 ≡ false = in_data s 16 64 x refl in
    let o : has s 32 ≡ false = in_data s 32 64 x refl in
    let t : has s 64 ≡ true = in_data s 64 64 x refl in
    rw (f, v, c, b, o, t) refl
no_area s n (inr (inr (inr (inr (inr (inr x)))))) h =
    let a : has s 128 ≡ true = in_data s 128 128 x refl in
    cc

-- an area has no dimensions
area_free : (a b c d e : Bool) → first_of ((a && (b || c || d || e), AreaNotAllowedHere) ∷ []) ≡ None → c ≡ true → a ≡ false
area_free false b c d e h k = refl
area_free true true c d e h k = cc
area_free true false true d e h k = cc
area_free true false false d e h k = cc

starred_array : (dimensions : List WrittenBounds) → has_star dimensions ≡ true → is_array dimensions ≡ true
starred_array [] h = cc
starred_array (d ∷ ds) h = lt-ltb 0 (length (d ∷ ds)) (omega arith)

no_area_there : (p : ItemPlace) (dimensions : List WrittenBounds) (s : ℕ) → area_fault p dimensions s ≡ None → has_star dimensions ≡ true → has s area ≡ false
unfolding is_bad_area
no_area_there p dimensions s h star = area_free (has s area) (is_member p.position) (is_array dimensions) p.in_array (has s based) h (starred_array dimensions star)

-- ---- types

some_of : (dimensions : List WrittenBounds) → has_star dimensions ≡ true → 1 ≤ length dimensions
some_of [] h = cc
some_of (d ∷ ds) h = omega arith

taken_within : (dimensions : List WrittenBounds) (attributes : List tree.DescribedAttribute) (star : Bool) → are_bad_bounds dimensions ≡ false → IsScalar (described_scalar attributes)
    → (has_star dimensions ≡ true → is_area (described_scalar attributes) ≡ false)
    → ((e : Description) → type_taken dimensions (set_of attributes) (number_of attributes) star ≡ Stated e → size_of e ≤ 1000000)
    → IsTaken (type_taken dimensions (set_of attributes) (number_of attributes) star)
taken_within dimensions attributes star bounds scalar element sizes = by (has_star dimensions) refl element sizes
  where
    s : ℕ
    s = set_of attributes

    n : Option ℕ
    n = number_of attributes

    an_element : (star : Bool) → is_area (described_scalar attributes) ≡ false → IsOpenElement (element_of star s n)
    an_element true h = tt
    an_element false h = scalar_element (described_scalar attributes) scalar h

    bounded_type : (star : Bool) (ds : List WrittenBounds) → are_bad_bounds ds ≡ false → ((e : Description) → with_type_bounds (all_bounds ds) (element_of star s n) ≡ Stated e → size_of e ≤ 1000000)
        → IsTaken (with_type_bounds (all_bounds ds) (element_of star s n))
    bounded_type true [] good size = tt
    bounded_type true (d ∷ ds) good size = (omega arith, bounds_few (d ∷ ds) good, bounds_near (d ∷ ds) (bounds_good (d ∷ ds) good), tt)
    bounded_type false [] good size = (scalar_described attributes 512 (omega arith) scalar, size (described_scalar attributes) refl)
    bounded_type false (d ∷ ds) good size =
        (bounded (d ∷ ds) (described_scalar attributes) 511 good (scalar_described attributes 511 (omega arith) scalar) (scalar_described attributes 512 (omega arith) scalar), size (Array (all_bounds (d ∷ ds)) (described_scalar attributes)) refl)

    by : (any : Bool) → has_star dimensions ≡ any → (any ≡ true → is_area (described_scalar attributes) ≡ false)
        → ((e : Description) → (if any then AnyArray (length dimensions) (element_of star s n) else with_type_bounds (all_bounds dimensions) (element_of star s n)) ≡ Stated e → size_of e ≤ 1000000)
        → IsTaken (if any then AnyArray (length dimensions) (element_of star s n) else with_type_bounds (all_bounds dimensions) (element_of star s n))
    by true e area_off size = (some_of dimensions e, few_dimensions dimensions bounds, an_element star (area_off refl))
    by false e area_off size = bounded_type star dimensions bounds size

-- what ENTRY describes
pub parameter_taken : (d : tree.ParameterDescription) → parameter_fault d ≡ None → ((e : Description) → parameter_of d ≡ Stated e → size_of e ≤ 1000000) → IsTaken (parameter_of d)
unfolding parameter_of description_fault set_agrees
parameter_taken d h sizes =
    let s = set_of d.attributes in
    let n = number_of d.attributes in
    let star = types.has_star d.attributes in
    let two = shape_agrees parameter_place d.dimensions (each_once 0 d.attributes) s n star (or_none _ _ h).0 in
    taken_within d.dimensions d.attributes star (description_sound parameter_place d.dimensions d.attributes h).bounds (parameters_are_of_scalars d h)
    (λ any. no_area s n (variable_whole parameter_place s two.0 two.1 refl) (no_area_there parameter_place d.dimensions s (or_none _ _ h).1 any))
    sizes

-- what is open is not stated
not_stated : (dimensions : List WrittenBounds) (s : ℕ) (n : Option ℕ) (star any : Bool) → (star || any) ≡ true → (e : Description)
    → (if any then AnyArray (length dimensions) (element_of star s n) else with_type_bounds (all_bounds dimensions) (element_of star s n)) ≡ Stated e → ⊥
not_stated dimensions s n star true h e k = cc
not_stated [] s n true false h e k = cc
not_stated (d ∷ ds) s n true false h e k = cc
not_stated dimensions s n false false h e k = cc

opened : (parameter : Bool) (dimensions : List WrittenBounds) (s : ℕ) (n : Option ℕ) (star : Bool)
    → (parameter ≡ true → (star || has_star dimensions) ≡ true → IsTaken (type_taken dimensions s n star)) → IfThere IsTaken (open_type parameter dimensions s n star)
opened false dimensions s n star taken = tt
opened true dimensions s n star taken = by (star || has_star dimensions) (taken refl)
  where
    by : (any : Bool) → (any ≡ true → IsTaken (type_taken dimensions s n star)) → IfThere IsTaken (if any then Some (type_taken dimensions s n star) else None)
    by true so = so refl
    by false so = tt

inside : (position : Position) → is_parameter position ≡ true → is_at_level_one position ≡ false
inside AtLevelOne h = cc
inside Member h = cc
inside Parameter h = refl
inside Result h = cc

not_so : (b : Bool) → not b ≡ true → b ≡ false
not_so true h = cc
not_so false h = refl

-- a parameter in which a `*` stands
pub variable_taken : (p : ItemPlace) (i : tree.Item) → item_fault p i ≡ None → IfThere IsTaken (variable_of p i).taken
unfolding item_fault own_fault variable_of
variable_taken p i h =
    let attributes = map outermost i.attributes in
    let s = set_of attributes in
    let n = number_of attributes in
    let star = types.has_star attributes in
    let own = (parts_none p i (or_none _ (entry_fault (parameters_in i.attributes)) h).0).0 in
    let two = shape_agrees p i.dimensions (each_once 0 attributes) s n star (or_none _ _ own).0 in
    opened (may_be_open p) i.dimensions s n star
    (λ may any. let parts = and_parts (is_parameter p.position) (not p.has_members) may in
    let alone = not_so p.has_members parts.1 in
    let agrees = inner_variable p (is_array i.dimensions) s (inside p.position parts.0) in
    taken_within i.dimensions attributes star (own_sound p i own).bounds (scalar_here p i h alone agrees)
    (λ starred. no_area s n (variable_whole p s (agrees two.0) two.1 alone) (no_area_there p i.dimensions s (or_none _ _ (or_none _ _ own).1).1 starred))
    (λ e is. absurd (not_stated i.dimensions s n star (has_star i.dimensions) any e is)))
