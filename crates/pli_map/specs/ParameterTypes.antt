-- Types of parameters (X3.74): a `*` stands for an extent that is the argument's. A type is open where a `*`
-- stands in it, and stated where none does; what is stored has a description, in which no `*` can stand.
use Rattle.std.specs.Prelude.{ℕ, ◌==◌, Bool, true, false, ◌&&◌, Option, Some, None, option_map, List, []}
use Rattle.std.specs.Prelude.{◌∷◌, length}
use Rattle.pli_map.specs.declared.description.Bounds.{Bounds}
use Rattle.pli_map.specs.declared.parameter.StringForm.{StringForm}
use Rattle.pli_map.specs.declared.parameter.StringForm.TheVariants as forms
use Rattle.pli_map.specs.Description.{Description, Character, Varying, Bit, Array, Structure}
use Rattle.pli_map.specs.Same.{same, same_bounds}
use Rattle.pli_map.specs.Scalars.{is_aggregate}
use Rattle.pli_map.specs.views.MembersView.{members_of}

mutual
  -- a description; a string of any length; an array of so many dimensions, whose bounds are all `*`, of an
  -- element; an array of stated bounds, of an open element; a structure, one of whose members is open
  pub data ParameterType : Type 0 where
    Stated : (description : Description) → ParameterType
    AnyString : (form : StringForm) → ParameterType
    AnyArray : (dimensions : ℕ) (element : ParameterType) → ParameterType
    ArrayOf : (bounds : List Bounds) (element : ParameterType) → ParameterType
    StructureOf : (members : ParameterTypes) → ParameterType

  -- the types of members, in their order
  pub data ParameterTypes : Type 0 where
    NoType : ParameterTypes
    TypeThen : (first : ParameterType) (others : ParameterTypes) → ParameterTypes

-- the description of a type that is stated
abbrev pub stated : ParameterType → Option Description
stated (Stated d) = Some d
stated other = None

-- no `*` stands in a type
abbrev pub is_stated : ParameterType → Bool
is_stated (Stated d) = true
is_stated other = false

-- a `*` stands in it
abbrev pub is_open : ParameterType → Bool
is_open (Stated d) = false
is_open other = true

-- a list of types as those of members
abbrev pub types_of : List ParameterType → ParameterTypes
types_of [] = NoType
types_of (t ∷ ts) = TypeThen t (types_of ts)

-- and back
abbrev pub listed_types : ParameterTypes → List ParameterType
listed_types NoType = []
listed_types (TypeThen t ts) = t ∷ listed_types ts

-- an array of these bounds, stated where its element is
abbrev pub array_of : List Bounds → ParameterType → ParameterType
array_of bounds (Stated d) = Stated (Array bounds d)
array_of bounds other = ArrayOf bounds other

-- one more description
abbrev pub stated_before : Option Description → Option (List Description) → Option (List Description)
stated_before None ds = None
stated_before (Some d) ds = option_map (λ ds. d ∷ ds) ds

-- the descriptions of types, where all are stated
abbrev pub all_stated : List ParameterType → Option (List Description)
all_stated [] = Some []
all_stated (t ∷ ts) = stated_before (stated t) (all_stated ts)

-- a structure of members of these types, stated where they all are
abbrev pub structure_with : List ParameterType → Option (List Description) → ParameterType
structure_with ts None = StructureOf (types_of ts)
structure_with ts (Some ds) = Stated (Structure (members_of ds))

-- the same
abbrev pub structure_of : List ParameterType → ParameterType
structure_of ts = structure_with ts (all_stated ts)

-- strings

-- the description of a string of this form and length
abbrev pub string_of : StringForm → (length : ℕ) → Description
string_of forms.Character n = Character n
string_of forms.Varying n = Varying n
string_of forms.Bit n = Bit n

-- one form
abbrev pub same_form : StringForm → StringForm → Bool
same_form forms.Character forms.Character = true
same_form forms.Varying forms.Varying = true
same_form forms.Bit forms.Bit = true
same_form f g = false

-- a description of a string of this form, whatever its length
abbrev pub is_string_of : StringForm → Description → Bool
is_string_of forms.Character (Character n) = true
is_string_of forms.Varying (Varying n) = true
is_string_of forms.Bit (Bit n) = true
is_string_of f d = false

-- equality

abbrev mutual
  -- types, bounds and structure are the same; a `*` is the same as a `*` only
  pub same_type : ParameterType → ParameterType → Bool
  same_type (Stated d) (Stated e) = same d e
  same_type (AnyString f) (AnyString g) = same_form f g
  same_type (AnyArray k t) (AnyArray j u) = k == j && same_type t u
  same_type (ArrayOf bs t) (ArrayOf cs u) = same_bounds bs cs && same_type t u
  same_type (StructureOf ts) (StructureOf us) = same_types ts us
  same_type t u = false

  -- as many members, and each the same
  pub same_types : ParameterTypes → ParameterTypes → Bool
  same_types NoType NoType = true
  same_types (TypeThen t ts) (TypeThen u us) = same_type t u && same_types ts us
  same_types ts us = false

-- matching

-- an array: how many dimensions it has, their bounds where they are stated, and its element
pub record ArrayParts : Type 0 where
  pub dimensions : ℕ
  pub bounds : Option (List Bounds)
  pub element : ParameterType

-- those of an array of these bounds
abbrev pub bounded_array : List Bounds → ParameterType → ArrayParts
bounded_array bs t = record { dimensions = length bs; bounds = Some bs; element = t }

-- those of a type, if it is an array
abbrev pub array_in : ParameterType → Option ArrayParts
array_in (Stated (Array bs d)) = Some (bounded_array bs (Stated d))
array_in (AnyArray k t) = Some (record { dimensions = k; bounds = None; element = t })
array_in (ArrayOf bs t) = Some (bounded_array bs t)
array_in other = None

-- an array of which this holds, and of whose element that does
abbrev pub is_array_with : (ArrayParts → Bool) → (ParameterType → Bool) → Option ArrayParts → Bool
is_array_with fits inner None = false
is_array_with fits inner (Some a) = fits a && inner a.element

-- an array has so many dimensions
abbrev pub has_dimensions : ℕ → ArrayParts → Bool
has_dimensions k a = a.dimensions == k

-- bounds are stated, and these
abbrev pub are_bounds_of : List Bounds → Option (List Bounds) → Bool
are_bounds_of bs None = false
are_bounds_of bs (Some cs) = same_bounds bs cs

-- an array has these bounds
abbrev pub has_bounds : List Bounds → ArrayParts → Bool
has_bounds bs a = are_bounds_of bs a.bounds

-- a string of a form, of any length
abbrev pub is_any_string : StringForm → ParameterType → Bool
is_any_string f (Stated d) = is_string_of f d
is_any_string f (AnyString g) = same_form f g
is_any_string f other = false

-- what is of the second type may be passed by reference for a parameter of the first: a `*` of the parameter
-- agrees with any extent, a `*` too; a `*` of the argument with a `*` only. No parameter is an open structure
abbrev pub agrees : (parameter argument : ParameterType) → Bool
agrees (Stated d) (Stated e) = same d e
agrees (Stated d) other = false
agrees (AnyString f) argument = is_any_string f argument
agrees (AnyArray k t) argument = is_array_with (has_dimensions k) (agrees t) (array_in argument)
agrees (ArrayOf bs t) argument = is_array_with (has_bounds bs) (agrees t) (array_in argument)
agrees (StructureOf ts) argument = false

-- parts

-- a type, if this is so
abbrev pub type_if : Bool → ParameterType → Option ParameterType
type_if true t = Some t
type_if false t = None

-- the element of an open array of so many dimensions
abbrev pub element_type : (dimensions : ℕ) → ParameterType → Option ParameterType
element_type k (AnyArray j t) = type_if (j == k) t
element_type k (ArrayOf bs t) = type_if (length bs == k) t
element_type k other = None

-- an array or a structure
abbrev pub is_aggregate_type : ParameterType → Bool
is_aggregate_type (Stated d) = is_aggregate d
is_aggregate_type (AnyString f) = false
is_aggregate_type other = true
