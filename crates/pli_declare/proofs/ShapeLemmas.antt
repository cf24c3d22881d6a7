-- What attributes without a fault of their shape are.
use Rattle.std.proofs.Common.{◌≡◌, ℕ, Bool, true, false, not, ◌||◌, ◌&&◌, nat_lt, Option, Some, None, List, [], ◌∷◌, length, map, refl, ap, sym, ◌∙◌, ◌<◌, ◌≤◌, arith, option_map}
use Rattle.std.specs.List.{list_all, list_any}
use Rattle.std.specs.Option.{option_or}
use Rattle.pli_base.specs.Declarations as tree
use Rattle.pli_base.specs.declared.code.Code.{Code}
use Rattle.pli_base.specs.declared.code.Code.TheVariants.{AttributesConflict, AttributesMissing, BadPrecision, BadLength, BadBounds, TooManyParameters, GenerationTooLarge}
use Rattle.pli_base.specs.declared.declaration.WrittenBounds.{WrittenBounds}
use Rattle.pli_declare.specs.Types.{number_of, is_bad_precision, is_bad_length, is_bad_star}
use Rattle.pli_declare.specs.Types as types
use Rattle.pli_declare.specs.Extents.{are_good, are_bad_bounds, are_bad_stars, is_array}
use Rattle.pli_declare.specs.Agreement.{may_be_open, set_agrees, is_missing}
use Rattle.pli_declare.specs.Faults.{first_of, shape_fault, description_fault, own_fault, attributes_fault, item_fault, parameters_fault, parameters_in, returned_fault, returned_in, entry_fault, lesser, is_too_large_type, parameter_of, described_scalar}
use Rattle.pli_declare.specs.Completed.{OfVariable, OfEntry, OfBuiltIn, variable_of, completed_of}
use Rattle.std.proofs.lemmas.Bool.Decides.{nat_tests}
use Rattle.pli_declare.specs.Sets.{set_of, each_once, outermost, has, entry, built_in}
use Rattle.pli_declare.proofs.LeastFaults.{no_lesser}
use Rattle.pli_declare.specs.declared.place.ItemPlace.{ItemPlace}

-- numbers and bounds are in range
pub record IsSound (dimensions : List WrittenBounds) (s : ℕ) (n : Option ℕ) : Type 0 where
  pub precision : is_bad_precision s n ≡ false
  pub length_of : is_bad_length s n ≡ false
  pub bounds : are_bad_bounds dimensions ≡ false

last_three : (a b c d e : Bool) (t u v w x : Code) → first_of ((a, t) ∷ (b, u) ∷ (c, v) ∷ (d, w) ∷ (e, x) ∷ []) ≡ None
    → (c ≡ false) × (d ≡ false) × (e ≡ false)
last_three true b c d e t u v w x h = cc
last_three false true c d e t u v w x h = cc
last_three false false true d e t u v w x h = cc
last_three false false false true e t u v w x h = cc
last_three false false false false true t u v w x h = cc
last_three false false false false false t u v w x h = (refl, refl, refl)

pub left_false : (a b : Bool) → (a || b) ≡ false → a ≡ false
left_false true b h = cc
left_false false b h = refl

pub shape_sound : (p : ItemPlace) (dimensions : List WrittenBounds) (once : Bool) (s : ℕ) (n : Option ℕ) (star : Bool) → shape_fault p dimensions once s n star ≡ None → IsSound dimensions s n
unfolding shape_fault
shape_sound p dimensions once s n star h =
    let three =
    last_three (not (once && set_agrees p (is_array dimensions) s)) (is_missing p s) (is_bad_precision s n) (is_bad_length s n || is_bad_star (may_be_open p) star s)
    (are_bad_bounds dimensions || are_bad_stars (may_be_open p) dimensions)
    AttributesConflict AttributesMissing BadPrecision BadLength BadBounds h in
    record {
      precision = three.0;
      length_of = left_false (is_bad_length s n) (is_bad_star (may_be_open p) star s) three.1;
      bounds = left_false (are_bad_bounds dimensions) (are_bad_stars (may_be_open p) dimensions) three.2;
    }

second_false : (a b : Bool) → (a || not b) ≡ false → b ≡ true
second_false true b h = cc
second_false false true h = refl
second_false false false h = cc

pub bounds_good : (dimensions : List WrittenBounds) → are_bad_bounds dimensions ≡ false → list_all are_good dimensions ≡ true
unfolding are_bad_bounds
bounds_good dimensions h = second_false (nat_lt 8 (length dimensions)) _ h

pub few_dimensions : (dimensions : List WrittenBounds) → are_bad_bounds dimensions ≡ false → length dimensions ≤ 8
unfolding are_bad_bounds
few_dimensions dimensions h = grind (arith, nat_tests, left_false (nat_lt 8 (length dimensions)) (not (list_all are_good dimensions)) h)

pub or_none : (a b : Option Code) → option_or a b ≡ None → (a ≡ None) × (b ≡ None)
or_none None b h = (refl, h)
or_none (Some c) b h = cc

pub description_sound : (p : ItemPlace) (dimensions : List WrittenBounds) (attributes : List tree.DescribedAttribute) → description_fault p dimensions attributes ≡ None
    → IsSound dimensions (set_of attributes) (number_of attributes)
unfolding description_fault
description_sound p dimensions attributes h = shape_sound p dimensions (each_once 0 attributes) (set_of attributes) (number_of attributes) (types.has_star attributes) (or_none _ _ h).0

pub own_sound : (p : ItemPlace) (i : tree.Item) → own_fault p i ≡ None → IsSound i.dimensions (set_of (map outermost i.attributes)) (number_of (map outermost i.attributes))
unfolding own_fault
own_sound p i h =
    let attributes = map outermost i.attributes in
    shape_sound p i.dimensions (each_once 0 attributes) (set_of attributes) (number_of attributes) (types.has_star attributes) (or_none _ _ h).0

-- none of the parts has a fault
pub parts_none : (p : ItemPlace) (i : tree.Item) → attributes_fault p i ≡ None
    → (own_fault p i ≡ None) × (parameters_fault (parameters_in i.attributes) ≡ None) × (returned_fault (returned_in i.attributes) ≡ None)
unfolding attributes_fault
parts_none p i h =
    let two = no_lesser (own_fault p i) _ h in
    let others = no_lesser (parameters_fault (parameters_in i.attributes)) (returned_fault (returned_in i.attributes)) two.1 in
    (two.0, others.0, others.1)

-- the fault of an item whose attributes have none
pub entry_left : (p : ItemPlace) (i : tree.Item) → attributes_fault p i ≡ None → item_fault p i ≡ entry_fault (parameters_in i.attributes)
unfolding item_fault
entry_left p i h = ap (λ f. option_or f (entry_fault (parameters_in i.attributes))) h

pub attributes_first : (p : ItemPlace) (i : tree.Item) (c : Code) → attributes_fault p i ≡ Some c → item_fault p i ≡ Some c
unfolding item_fault
attributes_first p i c h = ap (λ f. option_or f (entry_fault (parameters_in i.attributes))) h

-- the same numbers elsewhere
pub sound_alike : (dimensions : List WrittenBounds) (s t : ℕ) (n m : Option ℕ) → s ≡ t → n ≡ m → IsSound dimensions t m → IsSound dimensions s n
sound_alike dimensions s t n m same alike sound =
    record {
      precision = rw (same, alike) sound.precision;
      length_of = rw (same, alike) sound.length_of;
      bounds = sound.bounds;
    }

two_faults : (a b : Bool) (c d : Code) → (a ≡ true → first_of ((a, c) ∷ (b, d) ∷ []) ≡ Some c)
    × (a ≡ false → b ≡ true → first_of ((a, c) ∷ (b, d) ∷ []) ≡ Some d)
    × (a ≡ false → b ≡ false → first_of ((a, c) ∷ (b, d) ∷ []) ≡ None)
two_faults true true c d = (λ h. refl, λ h k. cc, λ h k. cc)
two_faults true false c d = (λ h. refl, λ h k. cc, λ h k. cc)
two_faults false true c d = (λ h. cc, λ h k. refl, λ h k. cc)
two_faults false false c d = (λ h. cc, λ h k. cc, λ h k. refl)

more : (n m : ℕ) → n < m → nat_lt n m ≡ true
more n m h = grind (arith, nat_tests, h)

not_more : (n m : ℕ) → m ≤ n → nat_lt n m ≡ false
not_more n m h = grind (arith, nat_tests, h)

-- the attributes of an item without a fault have none
pub attributes_none : (p : ItemPlace) (i : tree.Item) → item_fault p i ≡ None → attributes_fault p i ≡ None
unfolding item_fault
attributes_none p i h = (or_none (attributes_fault p i) (entry_fault (parameters_in i.attributes)) h).0

-- the fault of an item whose attributes have none is that of its parameters, which is known where what ENTRY
-- and RETURNS hold has none
pub sizes_left : (p : ItemPlace) (i : tree.Item) (held sizes : Option Code)
    → held ≡ lesser (parameters_fault (parameters_in i.attributes)) (returned_fault (returned_in i.attributes))
    → (held ≡ None → sizes ≡ entry_fault (parameters_in i.attributes)) → attributes_fault p i ≡ None → sizes ≡ item_fault p i
sizes_left p i held sizes is known h =
    let parts = parts_none p i h in
    let none : lesser (parameters_fault (parameters_in i.attributes)) (returned_fault (returned_in i.attributes)) ≡ None =
    ap (λ f. lesser f (returned_fault (returned_in i.attributes))) parts.1 ∙ parts.2 in
    known (is ∙ none) ∙ sym (entry_left p i h)

pub too_many_parameters : (ds : List tree.ParameterDescription) → 64 < length ds → entry_fault ds ≡ Some TooManyParameters
too_many_parameters ds many =
    (two_faults (nat_lt 64 (length ds)) (list_any is_too_large_type (map parameter_of ds)) TooManyParameters GenerationTooLarge).0 (more 64 (length ds) many)

pub too_large_parameter : (ds : List tree.ParameterDescription) → length ds ≤ 64 → list_any is_too_large_type (map parameter_of ds) ≡ true
    → entry_fault ds ≡ Some GenerationTooLarge
too_large_parameter ds few large =
    (two_faults (nat_lt 64 (length ds)) (list_any is_too_large_type (map parameter_of ds)) TooManyParameters GenerationTooLarge).1 (not_more 64 (length ds) few) large

pub good_parameters : (ds : List tree.ParameterDescription) → length ds ≤ 64 → list_any is_too_large_type (map parameter_of ds) ≡ false
    → entry_fault ds ≡ None
good_parameters ds few small =
    (two_faults (nat_lt 64 (length ds)) (list_any is_too_large_type (map parameter_of ds)) TooManyParameters GenerationTooLarge).2 (not_more 64 (length ds) few) small

-- what an item is, by its set
pub is_entry : (p : ItemPlace) (i : tree.Item) (s : ℕ) → s ≡ set_of (map outermost i.attributes) → has s entry ≡ true
    → completed_of p i ≡ OfEntry (map parameter_of (parameters_in i.attributes)) (option_map described_scalar (returned_in i.attributes))
unfolding completed_of
is_entry p i s same h = let here = rw same at h in rw here

pub is_built_in : (p : ItemPlace) (i : tree.Item) (s : ℕ) → s ≡ set_of (map outermost i.attributes) → has s entry ≡ false → has s built_in ≡ true
    → completed_of p i ≡ OfBuiltIn
unfolding completed_of
is_built_in p i s same h k = let here = rw same at h in let there = rw same at k in rw (here, there)

pub is_variable : (p : ItemPlace) (i : tree.Item) (s : ℕ) → s ≡ set_of (map outermost i.attributes) → has s entry ≡ false → has s built_in ≡ false
    → completed_of p i ≡ OfVariable (variable_of p i)
unfolding completed_of
is_variable p i s same h k = let here = rw same at h in let there = rw same at k in rw (here, there)
