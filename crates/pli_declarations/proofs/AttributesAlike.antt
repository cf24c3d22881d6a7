-- What attributes say is what the passes find.
use Rattle.std.specs.Prelude.{◌≡◌, refl, ℕ, ◌+◌, Bool, true, false, not, ◌==◌, ◌&&◌, ◌||◌, nat_le, if◌then◌else◌, bit_and, bit_or, Option, Some, None, is_none, option_map, option_and_then, List, [], ◌∷◌, slice_get}
use Rattle.std.specs.List.{list_any, filter_map, cons_option, fold}
use Rattle.std.specs.Option.{unwrap_or, option_or}
use Rattle.std.proofs.Common.{sym, ap, ap₂, ◌∙◌}
use Rattle.pli_base.specs.Declarations.{DescribedAttribute, Plain, AnyEntry, AnyReturns, Fixed, Binary, Character, Bit, Varying, Pointer, Offset, Area, Based, Controlled, Static, Automatic, External, Internal, Builtin, Initial}
use Rattle.pli_base.specs.declared.declaration.WrittenLength.{WrittenLength}
use Rattle.pli_base.specs.declared.declaration.WrittenLength.TheVariants as lengths
use Rattle.pli_map.specs.Description as types
use Rattle.pli_map.specs.ParameterTypes.{ParameterType, Stated, AnyString}
use Rattle.pli_map.specs.declared.parameter.StringForm.TheVariants as forms
use Rattle.pli_declare.specs.declared.place.ItemPlace.{ItemPlace}
use Rattle.pli_declare.specs.declared.place.Position.{Position}
use Rattle.pli_declare.specs.declared.place.Position.TheVariants.{AtLevelOne, Member, Parameter, Result}
use Rattle.pli_declare.specs.Sets as sets
use Rattle.pli_declare.specs.Agreement as old
use Rattle.pli_declare.specs.Types as old_types
use Rattle.pli_declarations.specs.Attributes.{kind_of, set_of, each_once, has, has_none, is_at, excluded_at, may_be_open, agree_as_other, agree_as_variable, is_missing}
use Rattle.pli_declarations.specs.Types.{extent_of, stated, number_of, has_star, is_up_to, is_bad_length, scalar_of, element_of}

-- one attribute
record Same (a : DescribedAttribute) : Type 0 where
  pub kind : kind_of a ≡ sets.kind_of a
  pub number : option_and_then stated (extent_of a) ≡ old_types.described_number a
  pub star : unwrap_or (option_map (λ n. is_none (stated n)) (extent_of a)) false ≡ old_types.described_star a

same : (a : DescribedAttribute) → Same a
same (Plain (Fixed None)) = record { kind = refl; number = refl; star = refl }
same (Plain (Fixed (Some n))) = record { kind = refl; number = refl; star = refl }
same (Plain (Binary None)) = record { kind = refl; number = refl; star = refl }
same (Plain (Binary (Some n))) = record { kind = refl; number = refl; star = refl }
same (Plain (Character None)) = record { kind = refl; number = refl; star = refl }
same (Plain (Character (Some (lengths.Stated n)))) = record { kind = refl; number = refl; star = refl }
same (Plain (Character (Some lengths.Any))) = record { kind = refl; number = refl; star = refl }
same (Plain (Bit None)) = record { kind = refl; number = refl; star = refl }
same (Plain (Bit (Some (lengths.Stated n)))) = record { kind = refl; number = refl; star = refl }
same (Plain (Bit (Some lengths.Any))) = record { kind = refl; number = refl; star = refl }
same (Plain (Area None)) = record { kind = refl; number = refl; star = refl }
same (Plain (Area (Some (lengths.Stated n)))) = record { kind = refl; number = refl; star = refl }
same (Plain (Area (Some lengths.Any))) = record { kind = refl; number = refl; star = refl }
same (Plain Varying) = record { kind = refl; number = refl; star = refl }
same (Plain Pointer) = record { kind = refl; number = refl; star = refl }
same (Plain (Offset name)) = record { kind = refl; number = refl; star = refl }
same (Plain (Based locator)) = record { kind = refl; number = refl; star = refl }
same (Plain Controlled) = record { kind = refl; number = refl; star = refl }
same (Plain Static) = record { kind = refl; number = refl; star = refl }
same (Plain Automatic) = record { kind = refl; number = refl; star = refl }
same (Plain External) = record { kind = refl; number = refl; star = refl }
same (Plain Internal) = record { kind = refl; number = refl; star = refl }
same (Plain Builtin) = record { kind = refl; number = refl; star = refl }
same (Plain (Initial values)) = record { kind = refl; number = refl; star = refl }
same AnyEntry = record { kind = refl; number = refl; star = refl }
same AnyReturns = record { kind = refl; number = refl; star = refl }

-- all of them
added : (s : ℕ) (xs : List DescribedAttribute) → fold (λ t a. bit_or t (kind_of a)) s xs ≡ sets.set_with s xs
added s [] = refl
added s (a ∷ xs) = added (bit_or s (kind_of a)) xs ∙ ap (λ k. sets.set_with (bit_or s k) xs) (same a).kind

pub set_alike : (xs : List DescribedAttribute) → set_of xs ≡ sets.set_of xs
set_alike xs = added 0 xs

pub once_alike : (s : ℕ) (xs : List DescribedAttribute) → each_once s xs ≡ sets.each_once s xs
once_alike s [] = refl
once_alike s (a ∷ xs) =
    let later = once_alike (bit_or s (kind_of a)) xs ∙ ap (λ k. sets.each_once (bit_or s k) xs) (same a).kind in
    λ i. bit_and s ((same a).kind i) == 0 && later i

pub number_alike : (xs : List DescribedAttribute) → number_of xs ≡ old_types.number_of xs
number_alike [] = refl
number_alike (a ∷ xs) = first (extent_of a) ∙ ap₂ option_or (same a).number (number_alike xs)
  where
    first : (o : Option WrittenLength)
        → slice_get (filter_map stated (cons_option o (filter_map extent_of xs))) 0 ≡ option_or (option_and_then stated o) (slice_get (filter_map stated (filter_map extent_of xs)) 0)
    first None = refl
    first (Some (lengths.Stated n)) = refl
    first (Some lengths.Any) = refl

pub star_alike : (xs : List DescribedAttribute) → has_star xs ≡ old_types.has_star xs
star_alike [] = refl
star_alike (a ∷ xs) = first (extent_of a) ∙ ap₂ (λ b c. b || c) (same a).star (star_alike xs)
  where
    first : (o : Option WrittenLength)
        → list_any (λ n. is_none (stated n)) (cons_option o (filter_map extent_of xs)) ≡ (unwrap_or (option_map (λ n. is_none (stated n)) o) false || list_any (λ n. is_none (stated n)) (filter_map extent_of xs))
    first None = refl
    first (Some n) = refl

-- which stand
pub has_alike : (xs : List DescribedAttribute) (a : DescribedAttribute) → has xs a ≡ sets.has (sets.set_of xs) (kind_of a)
has_alike xs a = λ i. sets.has (set_alike xs i) (kind_of a)

pub none_alike : (xs others : List DescribedAttribute) → has_none xs others ≡ sets.none_of (sets.set_of xs) (set_of others)
none_alike xs others = λ i. sets.none_of (set_alike xs i) (set_of others)

-- places
pub level_alike : (p : Position) → is_at AtLevelOne p ≡ old.is_at_level_one p
level_alike AtLevelOne = refl
level_alike Member = refl
level_alike Parameter = refl
level_alike Result = refl

pub member_alike : (p : Position) → is_at Member p ≡ old.is_member p
member_alike AtLevelOne = refl
member_alike Member = refl
member_alike Parameter = refl
member_alike Result = refl

parameter_alike : (p : Position) → is_at Parameter p ≡ old.is_parameter p
parameter_alike AtLevelOne = refl
parameter_alike Member = refl
parameter_alike Parameter = refl
parameter_alike Result = refl

members_alike : (p : Position) → (is_at AtLevelOne p || is_at Member p) ≡ old.may_have_members p
members_alike AtLevelOne = refl
members_alike Member = refl
members_alike Parameter = refl
members_alike Result = refl

excluded_alike : (p : Position) → set_of (excluded_at p) ≡ old.excluded_at p
excluded_alike AtLevelOne = refl
excluded_alike Member = refl
excluded_alike Parameter = refl
excluded_alike Result = refl

pub open_alike : (p : ItemPlace) → may_be_open p ≡ old.may_be_open p
open_alike p = λ i. parameter_alike p.position i && not p.has_members

-- which agree
other_alike : (b x y z w : Bool) → (b && (x && y || z && w)) ≡ (b && x && y || b && z && w)
other_alike true x y z w = refl
other_alike false x y z w = refl

variable_alike : (p : ItemPlace) (xs : List DescribedAttribute) → agree_as_variable p xs ≡ old.agrees_as_variable p (sets.set_of xs)
variable_alike p xs =
    λ i. let s = set_alike xs i in
    sets.none_of s (sets.entry + sets.built_in)
    && sets.is_one_of (bit_and s sets.data_attributes) old.data_types
    && sets.is_one_of (bit_and s sets.storage_attributes) (0 ∷ sets.automatic ∷ sets.static ∷ sets.based ∷ sets.controlled ∷ [])
    && sets.is_one_of (bit_and s sets.scope_attributes) (0 ∷ sets.internal ∷ sets.external ∷ [])
    && (sets.none_of s sets.external || sets.none_of s (sets.automatic + sets.based))
    && (sets.none_of s sets.returns || sets.none_of s sets.data_attributes && not p.has_members)
    && sets.none_of s (excluded_alike p.position i)
    && (not p.has_members || members_alike p.position i && sets.none_of s sets.data_attributes)

pub agree_alike : (p : ItemPlace) (is_array : Bool) (xs : List DescribedAttribute) → (agree_as_other p is_array xs || agree_as_variable p xs) ≡ old.set_agrees p is_array (sets.set_of xs)
unfolding old.set_agrees
agree_alike p is_array xs =
    (λ i. let s = set_alike xs i in
    ((level_alike p.position i && not p.has_members && not is_array) && (sets.has s sets.entry && sets.within s (sets.entry + sets.returns + sets.external) || p.built_in_name && s == sets.built_in))
    || variable_alike p xs i)
    ∙ ap (λ b. b || old.agrees_as_variable p (sets.set_of xs))
    (other_alike (old.is_plain p is_array) (sets.has (sets.set_of xs) sets.entry) (sets.within (sets.set_of xs) (sets.entry + sets.returns + sets.external)) p.built_in_name (sets.set_of xs == sets.built_in))

pub missing_alike : (p : ItemPlace) (xs : List DescribedAttribute) → is_missing p xs ≡ old.is_missing p (sets.set_of xs)
unfolding old.is_missing
missing_alike p xs =
    λ i. let s = set_alike xs i in
    sets.has s sets.returns && sets.none_of s sets.entry
    || not p.has_members && sets.none_of s (sets.entry + sets.built_in)
    && sets.is_one_of (bit_and s sets.data_attributes) (0 ∷ sets.fixed ∷ sets.binary ∷ [])

-- types
pub or_alike : (d : ℕ) (o : Option ℕ) → unwrap_or o d ≡ old_types.number_or d o
or_alike d None = refl
or_alike d (Some n) = refl

limit_alike : (limit : ℕ) (o : Option ℕ) → nat_le 1 limit ≡ true → is_up_to limit o ≡ old_types.is_up_to limit o
limit_alike limit None e = e
limit_alike limit (Some n) e = refl

pub precision_alike : (xs : List DescribedAttribute) → (has xs (Plain (Fixed None)) && not (is_up_to 63 (number_of xs))) ≡ old_types.is_bad_precision (sets.set_of xs) (old_types.number_of xs)
unfolding old_types.is_bad_precision
precision_alike xs = λ i. sets.has (set_alike xs i) sets.fixed && not (limit_alike 63 (number_alike xs i) refl i)

pub length_alike : (xs : List DescribedAttribute) → is_bad_length xs ≡ old_types.is_bad_length (sets.set_of xs) (old_types.number_of xs)
unfolding old_types.is_bad_length
length_alike xs =
    λ i. let s = set_alike xs i in
    (sets.has s sets.character || sets.has s sets.varying || sets.has s sets.bit) && not (limit_alike 32767 (number_alike xs i) refl i)
    || sets.has s sets.area && not (limit_alike 1000000 (number_alike xs i) refl i)

pub scalar_alike : (xs : List DescribedAttribute) → scalar_of xs ≡ old_types.scalar_of (sets.set_of xs) (old_types.number_of xs)
unfolding old_types.scalar_of
scalar_alike xs =
    λ i. let s = set_alike xs i in
    let n = number_alike xs i in
    if sets.has s sets.fixed then types.FixedBinary (or_alike 15 n i)
    else if sets.has s sets.varying then types.Varying (or_alike 1 n i)
    else if sets.has s sets.character then types.Character (or_alike 1 n i)
    else if sets.has s sets.bit then types.Bit (or_alike 1 n i)
    else if sets.has s sets.pointer then types.Pointer
    else if sets.has s sets.offset then types.Offset
    else if sets.has s sets.area then types.area (or_alike 1000 n i)
    else types.area 1000

pub element_alike : (xs : List DescribedAttribute) → element_of xs ≡ old_types.element_of (old_types.has_star xs) (sets.set_of xs) (old_types.number_of xs)
element_alike xs = start ∙ by (old_types.has_star xs) (sets.has (sets.set_of xs) sets.varying) (sets.has (sets.set_of xs) sets.character) refl refl
  where
    chosen : (star varying character : Bool) → ParameterType
    chosen star varying character =
        if not star then Stated (old_types.scalar_of (sets.set_of xs) (old_types.number_of xs)) else if varying then AnyString forms.Varying else if character then AnyString forms.Character else AnyString forms.Bit

    start : element_of xs ≡ chosen (old_types.has_star xs) (sets.has (sets.set_of xs) sets.varying) (sets.has (sets.set_of xs) sets.character)
    start =
        λ i. let s = set_alike xs i in
        if not (star_alike xs i) then Stated (scalar_alike xs i) else if sets.has s sets.varying then AnyString forms.Varying else if sets.has s sets.character then AnyString forms.Character else AnyString forms.Bit

    by : (star varying character : Bool) → sets.has (sets.set_of xs) sets.varying ≡ varying → sets.has (sets.set_of xs) sets.character ≡ character
        → chosen star varying character ≡ old_types.element_of star (sets.set_of xs) (old_types.number_of xs)
    by false varying character e f = refl
    by true true character e f = λ i. AnyString (if sym e i then forms.Varying else if sets.has (sets.set_of xs) sets.character then forms.Character else forms.Bit)
    by true false true e f = λ i. AnyString (if sym e i then forms.Varying else if sym f i then forms.Character else forms.Bit)
    by true false false e f = λ i. AnyString (if sym e i then forms.Varying else if sym f i then forms.Character else forms.Bit)
