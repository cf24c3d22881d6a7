-- Where a `*` stands in a variable without a fault, it is a parameter, and has an open type.
use Rattle.std.proofs.Common.{◌≡◌, ℕ, Bool, true, false, not, ◌&&◌, ◌||◌, if◌then◌else◌, Option, Some, None, List, [], ◌∷◌, length, map, refl, ap}
use Rattle.pli_base.specs.Declarations as tree
use Rattle.pli_base.specs.declared.code.Code.{Code}
use Rattle.pli_base.specs.declared.code.Code.TheVariants.{AttributesConflict, AttributesMissing, BadPrecision, BadLength, BadBounds}
use Rattle.pli_base.specs.declared.declaration.WrittenBounds.{WrittenBounds}
use Rattle.pli_map.specs.ParameterTypes.{ParameterType, Stated, AnyArray}
use Rattle.std.specs.List.{list_all}
use Rattle.pli_declare.specs.Agreement.{may_be_open, set_agrees, is_missing}
use Rattle.pli_declare.specs.Completed.{open_type, variable_of}
use Rattle.pli_declare.specs.Extents.{are_bad_bounds, are_bad_stars, has_star, is_star, is_array, all_bounds}
use Rattle.pli_declare.specs.Faults.{first_of, shape_fault, own_fault, type_taken, with_bounds}
use Rattle.pli_declare.specs.Sets.{has, area, outermost, set_of, each_once}
use Rattle.pli_declare.specs.Types.{number_of, is_bad_precision, is_bad_length, is_bad_star, scalar_of}
use Rattle.pli_declare.specs.Types as types
use Rattle.pli_declare.specs.declared.place.ItemPlace.{ItemPlace}
use Rattle.pli_declare.proofs.ShapeLemmas.{or_none}

last_two : (a b c d e : Bool) (t u v w x : Code) → first_of ((a, t) ∷ (b, u) ∷ (c, v) ∷ (d, w) ∷ (e, x) ∷ []) ≡ None → (d ≡ false) × (e ≡ false)
last_two true b c d e t u v w x h = cc
last_two false true c d e t u v w x h = cc
last_two false false true d e t u v w x h = cc
last_two false false false true e t u v w x h = cc
last_two false false false false true t u v w x h = cc
last_two false false false false false t u v w x h = (refl, refl)

right_false : (a b : Bool) → (a || b) ≡ false → b ≡ false
right_false true b h = cc
right_false false b h = h

-- in what is no parameter no `*` stands without a fault
length_alone : (star is_area : Bool) → (star && (not false || is_area)) ≡ false → star ≡ false
length_alone true a h = cc
length_alone false a h = refl

bounds_alone : (any all : Bool) → (any && not (false && all)) ≡ false → any ≡ false
bounds_alone true all h = cc
bounds_alone false all h = refl

-- in a parameter that has no open type none stands
none_there : (star any : Bool) (t : ParameterType) → ◌≡◌ {A = Option ParameterType} (if true && (star || any) then Some t else None) None → (star ≡ false) × (any ≡ false)
none_there true any t h = cc
none_there false true t h = cc
none_there false false t h = (refl, refl)

by_place : (parameter : Bool) (dimensions : List WrittenBounds) (s : ℕ) (n : Option ℕ) (star : Bool) → is_bad_star parameter star s ≡ false → are_bad_stars parameter dimensions ≡ false
    → open_type parameter dimensions s n star ≡ None → (star ≡ false) × (has_star dimensions ≡ false)
by_place true dimensions s n star length bounds h = none_there star (has_star dimensions) (type_taken dimensions s n star) h
by_place false dimensions s n star length bounds h = (length_alone star (has s area) length, bounds_alone (has_star dimensions) (list_all is_star dimensions) bounds)

-- where no `*` stands a parameter's type is stated
pub none_is_stated : (dimensions : List WrittenBounds) (s : ℕ) (n : Option ℕ) → has_star dimensions ≡ false → type_taken dimensions s n false ≡ Stated (with_bounds (all_bounds dimensions) (scalar_of s n))
none_is_stated [] s n h = refl
none_is_stated (d ∷ ds) s n h =
    ap (λ (any : Bool). if any then AnyArray (length (d ∷ ds)) (Stated (scalar_of s n)) else Stated (with_bounds (all_bounds (d ∷ ds)) (scalar_of s n))) h

-- a variable without a fault that has no open type has no `*`
pub stars_are_taken : (p : ItemPlace) (i : tree.Item) → own_fault p i ≡ None → (variable_of p i).taken ≡ None
    → (types.has_star (map outermost i.attributes) ≡ false) × (has_star i.dimensions ≡ false)
unfolding own_fault shape_fault variable_of
stars_are_taken p i h none =
    let attributes = map outermost i.attributes in
    let s = set_of attributes in
    let n = number_of attributes in
    let star = types.has_star attributes in
    let two =
    last_two (not (each_once 0 attributes && set_agrees p (is_array i.dimensions) s)) (is_missing p s) (is_bad_precision s n) (is_bad_length s n || is_bad_star (may_be_open p) star s)
    (are_bad_bounds i.dimensions || are_bad_stars (may_be_open p) i.dimensions)
    AttributesConflict AttributesMissing BadPrecision BadLength BadBounds (or_none _ _ h).0 in
    by_place (may_be_open p) i.dimensions s n star (right_false (is_bad_length s n) (is_bad_star (may_be_open p) star s) two.0)
    (right_false (are_bad_bounds i.dimensions) (are_bad_stars (may_be_open p) i.dimensions) two.1) none
