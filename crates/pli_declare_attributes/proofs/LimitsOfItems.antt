-- Results, parameters and variables without a fault have types within the limits.
use Rattle.std.proofs.Common.{◌≡◌, ℕ, ◌==◌, ◌&&◌, ◌||◌, Bool, true, false, not, if◌then◌else◌, true≢false, refl, ap, subst, ◌∙◌, arith, Option, Some, None, List, [], ◌∷◌, map}
use Rattle.std.proofs.lemmas.Bool.Decides.{nat_tests}
use Rattle.pli_base.specs.declared.code.Code.{Code}
use Rattle.pli_base.specs.declared.code.Code.TheVariants.{AttributesConflict, AttributesMissing, BadPrecision, BadLength, BadBounds}
use Rattle.pli_base.specs.declared.declaration.WrittenBounds.{WrittenBounds}
use Rattle.pli_map.specs.Description.{Description}
use Rattle.pli_map.specs.ParameterTypes.{ParameterType}
use Rattle.pli_declare.specs.Sets.{has, entry, built_in, outermost, set_of, each_once}
use Rattle.pli_declare.specs.Agreement.{may_be_open, set_agrees, agrees_as_entry, agrees_as_built_in, agrees_as_variable, is_missing, is_plain}
use Rattle.pli_declare.specs.Types.{number_of, scalar_of, is_bad_precision, is_bad_length, is_bad_star}
use Rattle.pli_declare.specs.Types as types
use Rattle.pli_declare.specs.Extents.{is_array, are_bad_bounds, are_bad_stars}
use Rattle.pli_declare.specs.Faults.{first_of, shape_fault, description_fault, own_fault, attributes_fault, item_fault, entry_fault, parameters_in, parameter_place, result_place}
use Rattle.pli_declare.specs.Completed.{Variable, OfVariable, OfEntry, OfBuiltIn, variable_of, completed_of}
use Rattle.pli_declare_attributes.specs.laws.Laws.{IsScalar, ResultsAreScalars, ParametersAreOfScalars, VariablesAreOfScalars}
use Rattle.pli_declare.specs.declared.place.ItemPlace.{ItemPlace}
use Rattle.pli_declare_attributes.proofs.LimitLemmas.{variable_whole, scalar_whole}
use Rattle.pli_declare.proofs.ShapeLemmas.{shape_sound, or_none, parts_none}

first_pair : (a b c d e : Bool) (t u v w x : Code) → first_of ((not a, t) ∷ (b, u) ∷ (c, v) ∷ (d, w) ∷ (e, x) ∷ []) ≡ None → (a ≡ true) × (b ≡ false)
first_pair false b c d e t u v w x h = cc
first_pair true true c d e t u v w x h = cc
first_pair true false c d e t u v w x h = (refl, refl)

second_true : (a b : Bool) → (a && b) ≡ true → b ≡ true
second_true true b h = h
second_true false b h = cc

-- attributes without a fault of their shape agree, and none is missing
shape_agrees : (p : ItemPlace) (dimensions : List WrittenBounds) (once : Bool) (s : ℕ) (n : Option ℕ) (star : Bool) → shape_fault p dimensions once s n star ≡ None
    → (set_agrees p (is_array dimensions) s ≡ true) × (is_missing p s ≡ false)
unfolding shape_fault
shape_agrees p dimensions once s n star h =
    let two =
    first_pair (once && set_agrees p (is_array dimensions) s) (is_missing p s) (is_bad_precision s n) (is_bad_length s n || is_bad_star (may_be_open p) star s)
    (are_bad_bounds dimensions || are_bad_stars (may_be_open p) dimensions)
    AttributesConflict AttributesMissing BadPrecision BadLength BadBounds h in
    (second_true once (set_agrees p (is_array dimensions) s) two.0, two.1)

-- a variable without a fault of its shape
variable_scalar : (p : ItemPlace) (dimensions : List WrittenBounds) (once : Bool) (s : ℕ) (n : Option ℕ) (star : Bool) → p.has_members ≡ false
    → (set_agrees p (is_array dimensions) s ≡ true → agrees_as_variable p s ≡ true) → shape_fault p dimensions once s n star ≡ None → IsScalar (scalar_of s n)
variable_scalar p dimensions once s n star alone agrees h =
    let two = shape_agrees p dimensions once s n star h in
    let sound = shape_sound p dimensions once s n star h in
    scalar_whole s n (variable_whole p s (agrees two.0) two.1 alone) sound.precision sound.length_of

pub results_are_scalars : ResultsAreScalars
unfolding description_fault set_agrees
results_are_scalars attributes h =
    variable_scalar result_place [] (each_once 0 attributes) (set_of attributes) (number_of attributes) (types.has_star attributes) refl (λ a. a) (or_none _ _ h).0

pub parameters_are_of_scalars : ParametersAreOfScalars
unfolding description_fault set_agrees
parameters_are_of_scalars d h =
    variable_scalar parameter_place d.dimensions (each_once 0 d.attributes) (set_of d.attributes) (number_of d.attributes) (types.has_star d.attributes) refl (λ a. a) (or_none _ _ h).0

variable_left : (e b : Bool) (ps : List ParameterType) (r : Option Description) (v w : Variable) → (if e then OfEntry ps r else if b then OfBuiltIn else OfVariable w) ≡ OfVariable v
    → (e ≡ false) × (b ≡ false) × (w ≡ v)
variable_left true b ps r v w h = cc
variable_left false true ps r v w h = cc
variable_left false false ps r v w h = (refl, refl, cc)

description_left : (m : Bool) (s d : Description) → (if m then None else Some s) ≡ Some d → (m ≡ false) × (s ≡ d)
description_left true s d h = cc
description_left false s d h = (refl, cc)

middle_false : (a b c : Bool) → b ≡ false → (a && b && c) ≡ false
middle_false true true c h = cc
middle_false true false c h = refl
middle_false false b c h = refl

last_false : (a b : Bool) → b ≡ false → (a && b) ≡ false
last_false true b h = h
last_false false b h = refl

third : (a b c : Bool) → (a || b || c) ≡ true → a ≡ false → b ≡ false → c ≡ true
third true b c h k l = cc
third false true c h k l = cc
third false false c h k l = h

not_it_at : (s : ℕ) (b : Bool) → (s == 32768) ≡ b → has s 32768 ≡ false → b ≡ false
not_it_at s true e h = let same : s ≡ 32768 = grind (arith, nat_tests, e) in absurd (true≢false (subst (λ m. has m 32768 ≡ false) same h))
not_it_at s false e h = refl

-- without ENTRY and BUILTIN, a set that agrees is a variable's
only_variable : (p : ItemPlace) (array : Bool) (s : ℕ) → has s entry ≡ false → has s built_in ≡ false → set_agrees p array s ≡ true → agrees_as_variable p s ≡ true
unfolding set_agrees
only_variable p array s no_entry no_built_in agrees =
    third (agrees_as_entry p array s) (agrees_as_built_in p array s) (agrees_as_variable p s) agrees
    (middle_false (is_plain p array) (has s entry) _ no_entry)
    (last_false (is_plain p array && p.built_in_name) (s == 32768) (not_it_at s (s == 32768) refl no_built_in))

pub variables_are_of_scalars : VariablesAreOfScalars
unfolding item_fault own_fault completed_of variable_of
variables_are_of_scalars p i v d h is typed =
    let attributes = map outermost i.attributes in
    let s = set_of attributes in
    let n = number_of attributes in
    let three = variable_left (has s entry) (has s built_in) _ _ v (variable_of p i) is in
    let two = description_left p.has_members (scalar_of s n) d (ap (λ w. w.description) three.2 ∙ typed) in
    let own = (parts_none p i (or_none (attributes_fault p i) (entry_fault (parameters_in i.attributes)) h).0).0 in
    let within =
    variable_scalar p i.dimensions (each_once 0 attributes) s n (types.has_star attributes) two.0 (only_variable p (is_array i.dimensions) s three.0 three.1) (or_none _ _ own).0 in
    subst IsScalar two.1 within
