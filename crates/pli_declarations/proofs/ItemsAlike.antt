-- The faults of items and what items are completed to are what the passes find.
use Rattle.std.specs.Prelude.{◌≡◌, refl, ℕ, ◌+◌, Bool, true, false, not, ◌&&◌, ◌||◌, nat_lt, cond, if◌then◌else◌, Option, Some, None, option_map, option_and_then, List, [], ◌∷◌, ◌++◌, length, map}
use Rattle.std.specs.Option.{unwrap_or, option_or}
use Rattle.std.specs.List.{list_any, list_all, find, fold}
use Rattle.std.specs.Ordering.{nat_cmp}
use Rattle.std.proofs.Common.{ap, ap₂, ◌∙◌, arith, inl, inr, eq-eqb, ne_eqb}
use Rattle.std.proofs.lemmas.Bool.{cases_lt, lt-ltb, le-ltb}
use Rattle.pli_base.specs.Codes.{code_place}
use Rattle.pli_base.specs.declared.code.Code.{Code}
use Rattle.pli_base.specs.declared.code.Code.TheVariants.{AttributesConflict, AttributesMissing, BadPrecision, BadLength, BadBounds, BadInitial, AreaNotAllowedHere, TooManyParameters, GenerationTooLarge}
use Rattle.pli_base.specs.Declarations.{Item, DescribedAttribute, ParameterDescription}
use Rattle.pli_base.specs.declared.declaration.WrittenBounds.{WrittenBounds}
use Rattle.pli_base.specs.declared.declaration.InitialValue.{InitialValue}
use Rattle.pli_base.specs.declared.declaration.InitialValue.TheVariants as initial
use Rattle.pli_declare.specs.Sets as sets
use Rattle.pli_declare.specs.Sets.{outermost}
use Rattle.pli_declare.specs.Agreement as agreement
use Rattle.pli_declare.specs.Types as types
use Rattle.pli_declare.specs.Extents.{are_bad_bounds, are_bad_stars, all_bounds, is_array}
use Rattle.pli_declare.specs.Extents as extents
use Rattle.pli_declare.specs.Initials as initials
use Rattle.pli_declare.specs.Initials.{values_in, fits, elements_of}
use Rattle.pli_declare.specs.Faults as old
use Rattle.pli_declare.specs.Faults.{parameters_in, returned_in, with_dimensions, is_too_large_type}
use Rattle.pli_declare.specs.Completed as completed
use Rattle.pli_declare.specs.Completed.{OfVariable, OfEntry, OfBuiltIn}
use Rattle.pli_declare.specs.declared.place.ItemPlace.{ItemPlace}
use Rattle.pli_declare.specs.declared.place.Position.{Position}
use Rattle.pli_declare.specs.declared.place.Position.TheVariants.{AtLevelOne, Member, Parameter, Result}
use Rattle.pli_declare.specs.declared.completed.DeclaredStorage.TheVariants as storage
use Rattle.pli_declare.specs.declared.completed.ScopeAttribute.TheVariants as scopes
use Rattle.pli_declarations.specs.Attributes.{is_at}
use Rattle.pli_declarations.specs.Items.{first_fault, lesser, least, shape_faults, area_fault, elements_given, is_bad_initial, own_fault, description_fault, result_fault, type_taken, parameter_of, item_fault, storage_of, variable_of, completed_of}
use Rattle.pli_declarations.proofs.AttributesAlike.{set_alike, once_alike, star_alike, member_alike, open_alike, agree_alike, missing_alike, precision_alike, length_alike, scalar_alike, element_alike}

-- ---- codes

pub first_alike : (faults : List (Bool × Code)) → first_fault faults ≡ old.first_of faults
first_alike [] = refl
first_alike (f ∷ fs) = by f.0 (first_alike fs)
  where
    by : (b : Bool) {y : Option Code} → first_fault fs ≡ y → option_map (λ g. g.1) (cond b (Some f) (find (λ g. g.0) fs)) ≡ (if b then Some f.1 else y)
    by true e = refl
    by false e = e

-- the first of some, or else of others
either : (fs gs : List (Bool × Code)) → old.first_of (fs ++ gs) ≡ option_or (old.first_of fs) (old.first_of gs)
either [] gs = refl
either (f ∷ fs) gs = by f.0 _ _ (either fs gs)
  where
    by : (b : Bool) (x y : Option Code) → x ≡ option_or y (old.first_of gs) → (if b then Some f.1 else x) ≡ option_or (if b then Some f.1 else y) (old.first_of gs)
    by true x y e = refl
    by false x y e = e

ordered : (m n : ℕ) (c d : Code) → (if nat_lt n m then d else c) ≡ old.first_in_order (nat_cmp m n) c d
ordered m n c d = elim (cases_lt m n) [
  | inl less ↦ rw (lt-ltb m n less, le-ltb n m (omega (arith, less))) refl
  | inr more ↦ elim (cases_lt n m) [
    | inl greater ↦ rw (lt-ltb n m greater, le-ltb m n more, ne_eqb m n (omega (arith, greater))) refl
    | inr other ↦ rw (le-ltb m n more, le-ltb n m other, eq-eqb m n (omega (arith, more, other))) refl
  ]
]

pub lesser_alike : (c d : Option Code) → lesser c d ≡ old.lesser c d
lesser_alike None None = refl
lesser_alike None (Some d) = refl
lesser_alike (Some c) None = refl
lesser_alike (Some c) (Some d) = ap Some (ordered (code_place c) (code_place d) c d)

alone : (c : Option Code) → old.lesser c None ≡ c
alone None = refl
alone (Some c) = refl

-- ---- attributes

abbrev old_shape : ItemPlace → List WrittenBounds → (once : Bool) → ℕ → Option ℕ → (star : Bool) → List (Bool × Code)
old_shape p dimensions once s n star =
    (not (once && agreement.set_agrees p (is_array dimensions) s), AttributesConflict)
    ∷ (agreement.is_missing p s, AttributesMissing)
    ∷ (types.is_bad_precision s n, BadPrecision)
    ∷ (types.is_bad_length s n || types.is_bad_star (agreement.may_be_open p) star s, BadLength)
    ∷ (are_bad_bounds dimensions || are_bad_stars (agreement.may_be_open p) dimensions, BadBounds) ∷ []

abbrev old_shape_of : ItemPlace → List WrittenBounds → List DescribedAttribute → List (Bool × Code)
old_shape_of p dimensions xs = old_shape p dimensions (sets.each_once 0 xs) (sets.set_of xs) (types.number_of xs) (types.has_star xs)

shape_alike : (p : ItemPlace) (dimensions : List WrittenBounds) (xs : List DescribedAttribute) → shape_faults p dimensions xs ≡ old_shape_of p dimensions xs
shape_alike p dimensions xs =
    λ i. (not (once_alike 0 xs i && agree_alike p (is_array dimensions) xs i), AttributesConflict)
    ∷ (missing_alike p xs i, AttributesMissing)
    ∷ (precision_alike xs i, BadPrecision)
    ∷ (length_alike xs i || star_alike xs i && (not (open_alike p i) || sets.has (set_alike xs i) sets.area), BadLength)
    ∷ (are_bad_bounds dimensions || are_bad_stars (open_alike p i) dimensions, BadBounds) ∷ []

abbrev old_area : ItemPlace → List WrittenBounds → List DescribedAttribute → Bool × Code
old_area p dimensions xs = (old.is_bad_area p dimensions (sets.set_of xs), AreaNotAllowedHere)

area_alike : (p : ItemPlace) (dimensions : List WrittenBounds) (xs : List DescribedAttribute) → area_fault p dimensions xs ≡ old_area p dimensions xs
unfolding old.is_bad_area
area_alike p dimensions xs =
    λ i. let s = set_alike xs i in
    (sets.has s sets.area && (member_alike p.position i || is_array dimensions || p.in_array || sets.has s sets.based), AreaNotAllowedHere)

shape_first : (p : ItemPlace) (dimensions : List WrittenBounds) (xs : List DescribedAttribute) → old.first_of (old_shape_of p dimensions xs) ≡ old.shape_fault_of p dimensions xs
unfolding old.shape_fault
shape_first p dimensions xs = refl

abbrev described_at : Position → ItemPlace
described_at position = record { position = position; has_members = false; in_array = false; elements_above = Some 1; built_in_name = false }

description_alike : (position : Position) (dimensions : List WrittenBounds) (xs : List DescribedAttribute)
    → description_fault position dimensions xs ≡ old.description_fault (described_at position) dimensions xs
unfolding old.description_fault
description_alike position dimensions xs =
    let p : ItemPlace = described_at position in
    (λ i. first_alike (shape_alike p dimensions xs i ++ area_alike p dimensions xs i ∷ []) i)
    ∙ either (old_shape_of p dimensions xs) (old_area p dimensions xs ∷ [])
    ∙ ap (λ c. option_or c (old.area_fault p dimensions (sets.set_of xs))) (shape_first p dimensions xs)

pub result_alike : (xs : List DescribedAttribute) → result_fault xs ≡ old.result_fault xs
result_alike xs = description_alike Result [] xs

-- ---- INITIAL

given_alike : (value : InitialValue) → elements_given value ≡ initials.elements_given value
given_alike (initial.Integer None value) = refl
given_alike (initial.Integer (Some factor) value) = refl
given_alike (initial.Characters string) = refl
given_alike (initial.Bits string) = refl
given_alike initial.Null = refl

all_alike : (n : ℕ) (values : List InitialValue) → fold (λ m value. m + elements_given value) n values ≡ n + initials.all_given values
all_alike n [] = let e : n ≡ n + 0 = omega arith in e
all_alike n (value ∷ values) =
    let e : n + initials.elements_given value + initials.all_given values ≡ n + (initials.elements_given value + initials.all_given values) = omega arith in
    all_alike (n + elements_given value) values ∙ ap (λ m. n + m + initials.all_given values) (given_alike value) ∙ e

more_alike : (elements : Option ℕ) (given : ℕ) → unwrap_or (option_map (λ n. nat_lt n given) elements) false ≡ initials.is_more_than elements given
more_alike None given = refl
more_alike (Some n) given = refl

initial_alike : (p : ItemPlace) (dimensions : List WrittenBounds) (xs : List DescribedAttribute) (values : List InitialValue)
    → is_bad_initial p dimensions xs values ≡ initials.is_bad_initial p dimensions (sets.set_of xs) (types.number_of xs) values
unfolding initials.is_bad_initial
initial_alike p dimensions xs values =
    let none : 0 + initials.all_given values ≡ initials.all_given values = omega arith in
    let given = all_alike 0 values ∙ none in
    λ i. let s = set_alike xs i in
    sets.has s sets.initial
    && (p.has_members || sets.has s sets.area || not (list_all (fits (scalar_alike xs i)) values)
    || more_alike (elements_of p dimensions) (given i) i)

own_alike : (p : ItemPlace) (x : Item) → own_fault p x ≡ old.own_fault p x
unfolding old.own_fault
own_alike p x =
    let xs = map outermost x.attributes in
    let bad : Bool × Code = (initials.is_bad_initial p x.dimensions (sets.set_of xs) (types.number_of xs) (values_in x.attributes), BadInitial) in
    (λ i. first_alike (shape_alike p x.dimensions xs i ++ (initial_alike p x.dimensions xs (values_in x.attributes) i, BadInitial) ∷ area_alike p x.dimensions xs i ∷ []) i)
    ∙ either (old_shape_of p x.dimensions xs) (bad ∷ old_area p x.dimensions xs ∷ [])
    ∙ ap₂ option_or (shape_first p x.dimensions xs) (either (bad ∷ []) (old_area p x.dimensions xs ∷ []))

-- ---- types

taken_alike : (dimensions : List WrittenBounds) (xs : List DescribedAttribute)
    → type_taken dimensions xs ≡ old.type_taken dimensions (sets.set_of xs) (types.number_of xs) (types.has_star xs)
taken_alike dimensions xs = λ i. with_dimensions dimensions (element_alike xs i)

parameter_alike : (d : ParameterDescription) → parameter_of d ≡ old.parameter_of d
unfolding old.parameter_of
parameter_alike d = taken_alike d.dimensions d.attributes

-- ---- items

each_alike : (ds : List ParameterDescription) → least (map (λ d. description_fault Parameter d.dimensions d.attributes) ds) ≡ old.parameters_fault ds
each_alike [] = refl
each_alike (d ∷ ds) = λ i. lesser_alike (description_alike Parameter d.dimensions d.attributes i) (each_alike ds i) i

returned_alike : (o : Option (List DescribedAttribute)) → option_and_then result_fault o ≡ old.returned_fault o
returned_alike None = refl
returned_alike (Some xs) = result_alike xs

pub item_alike : (p : ItemPlace) (x : Item) → item_fault p x ≡ old.item_fault p x
unfolding old.item_fault old.attributes_fault
item_alike p x =
    let ds = parameters_in x.attributes in
    ap₂ option_or
    (λ i. lesser_alike (own_alike p x i) (lesser_alike (each_alike ds i) (lesser_alike (returned_alike (returned_in x.attributes) i) None i) i) i)
    (λ i. first_alike ((nat_lt 64 (length ds), TooManyParameters) ∷ (list_any is_too_large_type (map (λ d. parameter_alike d i) ds), GenerationTooLarge) ∷ []) i)
    ∙ ap (λ c. option_or (old.lesser (old.own_fault p x) (old.lesser (old.parameters_fault ds) c)) (old.entry_fault ds)) (alone (old.returned_fault (returned_in x.attributes)))

-- ---- what they are completed to

storage_alike : (xs : List DescribedAttribute) → storage_of xs ≡ completed.storage_of (sets.set_of xs)
storage_alike xs =
    (λ i. let s = set_alike xs i in
    if sets.has s sets.controlled then storage.Controlled else if sets.has s sets.based then storage.Based
    else if sets.has s sets.static || sets.has s sets.external then storage.Static else storage.Automatic)
    ∙ ap (λ x. if sets.has (sets.set_of xs) sets.controlled then storage.Controlled else if sets.has (sets.set_of xs) sets.based then storage.Based else x)
    (by (sets.has (sets.set_of xs) sets.static) (sets.has (sets.set_of xs) sets.external))
  where
    by : (b c : Bool) → (if b || c then storage.Static else storage.Automatic) ≡ (if b then storage.Static else if c then storage.Static else storage.Automatic)
    by true c = refl
    by false c = refl

placed_alike : (p : Position) (xs : List DescribedAttribute) → (if is_at AtLevelOne p then Some (storage_of xs) else None) ≡ completed.storage_at p (sets.set_of xs)
placed_alike AtLevelOne xs = ap Some (storage_alike xs)
placed_alike Member xs = refl
placed_alike Parameter xs = refl
placed_alike Result xs = refl

pub variable_alike : (p : ItemPlace) (x : Item) → variable_of p x ≡ completed.variable_of p x
unfolding completed.variable_of
variable_alike p x =
    let xs = map outermost x.attributes in
    λ i. record {
      description = if p.has_members then None else Some (scalar_alike xs i);
      bounds = all_bounds x.dimensions;
      taken = if open_alike p i && (star_alike xs i || extents.has_star x.dimensions) then Some (taken_alike x.dimensions xs i) else None;
      storage = placed_alike p.position xs i;
      scope = if sets.has (set_alike xs i) sets.external then scopes.External else scopes.Internal;
      initial = values_in x.attributes;
    }

pub completed_alike : (p : ItemPlace) (x : Item) → completed_of p x ≡ completed.completed_of p x
unfolding completed.completed_of
completed_alike p x =
    let xs = map outermost x.attributes in
    λ i. let s = set_alike xs i in
    if sets.has s sets.entry
    then OfEntry (map (λ d. parameter_alike d i) (parameters_in x.attributes)) (option_map (λ ys. scalar_alike ys i) (returned_in x.attributes))
    else if sets.has s sets.built_in then OfBuiltIn
    else OfVariable (variable_alike p x i)
