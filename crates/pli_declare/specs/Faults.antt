-- The least fault of the attributes of an item, and of a result, apart from faults of names and levels.
use Rattle.std.specs.Prelude.{ℕ, Bool, false, not, ◌&&◌, ◌||◌, nat_lt, if◌then◌else◌, Option, Some}
use Rattle.std.specs.Prelude.{None, List, [], ◌∷◌, length, map}
use Rattle.std.specs.Option.{option_or}
use Rattle.std.specs.List.{list_any}
use Rattle.std.specs.Ordering.{nat_cmp}
use Rattle.std.specs.declared.cmp.Ordering.{Ordering}
use Rattle.std.specs.declared.cmp.Ordering.TheVariants.{Less, Equal, Greater}
use Rattle.pli_base.specs.Codes.{code_place}
use Rattle.pli_base.specs.declared.code.Code.{Code}
use Rattle.pli_base.specs.declared.code.Code.TheVariants.{AttributesConflict, AttributesMissing, BadPrecision}
use Rattle.pli_base.specs.declared.code.Code.TheVariants.{BadLength, BadBounds, BadInitial}
use Rattle.pli_base.specs.declared.code.Code.TheVariants.{AreaNotAllowedHere, TooManyParameters}
use Rattle.pli_base.specs.declared.code.Code.TheVariants.{GenerationTooLarge}
use Rattle.pli_base.specs.Declarations as tree
use Rattle.pli_base.specs.declared.declaration.WrittenBounds.{WrittenBounds}
use Rattle.pli_map.specs.Description as described
use Rattle.pli_map.specs.declared.description.Bounds as whole
use Rattle.pli_map.specs.ParameterTypes.{ParameterType, Stated, AnyArray, array_of}
use Rattle.pli_map.specs.Sizes.{size_of}
use Rattle.pli_declare.specs.Sets.{area, based, has, each_once, set_of, outermost}
use Rattle.pli_declare.specs.Agreement.{is_member, may_be_open, set_agrees, is_missing}
use Rattle.pli_declare.specs.Types.{number_of, is_bad_precision, is_bad_length, is_bad_star}
use Rattle.pli_declare.specs.Types.{scalar_of, element_of}
use Rattle.pli_declare.specs.Types as types
use Rattle.pli_declare.specs.Extents.{are_bad_bounds, are_bad_stars, has_star, all_bounds}
use Rattle.pli_declare.specs.Extents.{is_array}
use Rattle.pli_declare.specs.Initials.{values_in, is_bad_initial}
use Rattle.pli_declare.specs.declared.place.ItemPlace.{ItemPlace}
use Rattle.pli_declare.specs.declared.place.Position.TheVariants.{Parameter, Result}

-- the first of these faults that holds
abbrev pub first_of : List (Bool × Code) → Option Code
first_of [] = None
first_of (fault ∷ others) = if fault.0 then Some fault.1 else first_of others

-- the one of the lower number, the first of equal ones
abbrev pub first_in_order : Ordering → Code → Code → Code
first_in_order Less c d = c
first_in_order Equal c d = c
first_in_order Greater c d = d

-- the lesser of two codes, if any
abbrev pub lesser : Option Code → Option Code → Option Code
lesser None fault = fault
lesser (Some c) None = Some c
lesser (Some c) (Some d) = Some (first_in_order (nat_cmp (code_place c) (code_place d)) c d)

-- an AREA is no member, stands in no array and is not BASED
unfoldable pub is_bad_area : ItemPlace → List WrittenBounds → ℕ → Bool
is_bad_area p dimensions s =
    has s area && (is_member p.position || is_array dimensions || p.in_array || has s based)

-- faults of attributes that stand once each, or do not, of this set and with this precision, length or size,
-- or with a `*` in its place
unfoldable pub shape_fault : ItemPlace → List WrittenBounds → (once : Bool) → ℕ → Option ℕ → (star : Bool)
    → Option Code
shape_fault p dimensions once s n star =
    first_of (
    (not (once && set_agrees p (is_array dimensions) s), AttributesConflict)
    ∷ (is_missing p s, AttributesMissing)
    ∷ (is_bad_precision s n, BadPrecision)
    ∷ (is_bad_length s n || is_bad_star (may_be_open p) star s, BadLength)
    ∷ (are_bad_bounds dimensions || are_bad_stars (may_be_open p) dimensions, BadBounds) ∷ [])

-- the same of these attributes
abbrev pub shape_fault_of : ItemPlace → List WrittenBounds → List tree.DescribedAttribute → Option Code
shape_fault_of p dimensions attributes =
    shape_fault p dimensions (each_once 0 attributes) (set_of attributes) (number_of attributes)
    (types.has_star attributes)

-- faults of an AREA
abbrev pub area_fault : ItemPlace → List WrittenBounds → ℕ → Option Code
area_fault p dimensions s = first_of ((is_bad_area p dimensions s, AreaNotAllowedHere) ∷ [])

-- the fault of the description of a parameter or of a result, at its place
unfoldable pub description_fault : ItemPlace → List WrittenBounds → List tree.DescribedAttribute → Option Code
description_fault p dimensions attributes =
    option_or (shape_fault_of p dimensions attributes) (area_fault p dimensions (set_of attributes))

-- the fault of an item's own attributes
unfoldable pub own_fault : ItemPlace → tree.Item → Option Code
own_fault p i =
    let attributes = map outermost i.attributes in
    option_or (shape_fault_of p i.dimensions attributes)
    (option_or
    (first_of
    ((
      is_bad_initial p i.dimensions (set_of attributes) (number_of attributes) (values_in i.attributes),
      BadInitial,
    ) ∷ []))
    (area_fault p i.dimensions (set_of attributes)))

-- where what ENTRY describes of a parameter stands
abbrev pub parameter_place : ItemPlace
parameter_place =
    record {
      position = Parameter;
      has_members = false;
      in_array = false;
      elements_above = Some 1;
      built_in_name = false;
    }

-- where what RETURNS describes stands: a result is a scalar
abbrev pub result_place : ItemPlace
result_place =
    record {
      position = Result;
      has_members = false;
      in_array = false;
      elements_above = Some 1;
      built_in_name = false;
    }

-- the fault of RETURNS, of a procedure and of an ENTRY
abbrev pub result_fault : List tree.DescribedAttribute → Option Code
result_fault attributes = description_fault result_place [] attributes

-- the least fault of a parameter description
abbrev pub parameter_fault : tree.ParameterDescription → Option Code
parameter_fault d = description_fault parameter_place d.dimensions d.attributes

-- the least fault of descriptions of parameters
abbrev pub parameters_fault : List tree.ParameterDescription → Option Code
parameters_fault [] = None
parameters_fault (d ∷ ds) = lesser (parameter_fault d) (parameters_fault ds)

-- the descriptions that an item's ENTRY has
abbrev pub parameters_in : List tree.Attribute → List tree.ParameterDescription
parameters_in [] = []
parameters_in (tree.Entry (Some ds) ∷ attributes) = ds
parameters_in (a ∷ attributes) = parameters_in attributes

-- the attributes in an item's RETURNS
abbrev pub returned_in : List tree.Attribute → Option (List tree.DescribedAttribute)
returned_in [] = None
returned_in (tree.Returns result ∷ attributes) = Some result
returned_in (a ∷ attributes) = returned_in attributes

-- the least fault of what RETURNS describes
abbrev pub returned_fault : Option (List tree.DescribedAttribute) → Option Code
returned_fault None = None
returned_fault (Some attributes) = result_fault attributes

-- a type with dimensions before it, if there are any
abbrev pub with_bounds : List whole.Bounds → described.Description → described.Description
with_bounds [] element = element
with_bounds (b ∷ bs) element = described.Array (b ∷ bs) element

-- what attributes that agree describe
abbrev pub described_scalar : List tree.DescribedAttribute → described.Description
described_scalar attributes = scalar_of (set_of attributes) (number_of attributes)

-- the same of a type that may be open
abbrev pub with_type_bounds : List whole.Bounds → ParameterType → ParameterType
with_type_bounds [] element = element
with_type_bounds (b ∷ bs) element = array_of (b ∷ bs) element

-- an element with dimensions before it, if there are any; where one is `*`, all are
abbrev pub with_dimensions : List WrittenBounds → ParameterType → ParameterType
with_dimensions dimensions element =
    if has_star dimensions then AnyArray (length dimensions) element
    else with_type_bounds (all_bounds dimensions) element

-- the type of a parameter of this set and with this precision, length or size, or with a `*` in its place
abbrev pub type_taken : List WrittenBounds → ℕ → Option ℕ → (star : Bool) → ParameterType
type_taken dimensions s n star = with_dimensions dimensions (element_of star s n)

-- the type of a parameter that ENTRY describes
unfoldable pub parameter_of : tree.ParameterDescription → ParameterType
parameter_of d =
    type_taken d.dimensions (set_of d.attributes) (number_of d.attributes) (types.has_star d.attributes)

-- a generation is at most 1,000,000 bytes
abbrev pub is_too_large : described.Description → Bool
is_too_large d = nat_lt 1000000 (size_of d)

-- of what is open no size is known
abbrev pub is_too_large_type : ParameterType → Bool
is_too_large_type (Stated d) = is_too_large d
is_too_large_type other = false

-- more than 64 parameters, or one that is too large
abbrev pub entry_fault : List tree.ParameterDescription → Option Code
entry_fault ds =
    first_of ((nat_lt 64 (length ds), TooManyParameters)
    ∷ (list_any is_too_large_type (map parameter_of ds), GenerationTooLarge) ∷ [])

-- the least fault of the attributes, of those in the descriptions of an ENTRY's parameters and of those in
-- RETURNS
unfoldable pub attributes_fault : ItemPlace → tree.Item → Option Code
attributes_fault p i =
    lesser (own_fault p i)
    (lesser (parameters_fault (parameters_in i.attributes)) (returned_fault (returned_in i.attributes)))

-- the least fault of an item
unfoldable pub item_fault : ItemPlace → tree.Item → Option Code
item_fault p i = option_or (attributes_fault p i) (entry_fault (parameters_in i.attributes))
