-- An item of a DECLARE, and what RETURNS and ENTRY describe: the least fault of the attributes, apart from
-- faults of names and levels, and what they are completed to.
use Rattle.std.specs.Prelude.{ℕ, Bool, false, not, ◌&&◌, ◌||◌, nat_lt, if◌then◌else◌, Option, Some}
use Rattle.std.specs.Prelude.{None, option_map, option_and_then, List, [], ◌∷◌, ◌++◌, length, map}
use Rattle.std.specs.Option.{unwrap_or, option_or}
use Rattle.std.specs.List.{list_any, list_all, find, sum_by}
use Rattle.pli_base.specs.Codes.{code_place}
use Rattle.pli_base.specs.declared.code.Code.{Code}
use Rattle.pli_base.specs.declared.code.Code.TheVariants.{AttributesConflict, AttributesMissing, BadPrecision}
use Rattle.pli_base.specs.declared.code.Code.TheVariants.{BadLength, BadBounds, BadInitial}
use Rattle.pli_base.specs.declared.code.Code.TheVariants.{AreaNotAllowedHere, TooManyParameters}
use Rattle.pli_base.specs.declared.code.Code.TheVariants.{GenerationTooLarge}
use Rattle.pli_base.specs.Declarations.{Item, DescribedAttribute, ParameterDescription, Plain, AnyEntry}
use Rattle.pli_base.specs.Declarations.{Fixed}
use Rattle.pli_base.specs.Declarations.{Area, Initial, Static, Builtin}
use Rattle.pli_base.specs.Declarations as written
use Rattle.pli_base.specs.declared.declaration.WrittenBounds.{WrittenBounds}
use Rattle.pli_base.specs.declared.declaration.InitialValue.{InitialValue}
use Rattle.pli_base.specs.declared.declaration.InitialValue.TheVariants as initial
use Rattle.pli_map.specs.ParameterTypes.{ParameterType}
use Rattle.pli_declare.specs.Sets.{outermost}
use Rattle.pli_declare.specs.Extents.{are_bad_bounds, are_bad_stars, all_bounds, is_array}
use Rattle.pli_declare.specs.Extents as extents
use Rattle.pli_declare.specs.Initials.{values_in, fits, elements_of}
use Rattle.pli_declare.specs.Faults.{parameters_in, returned_in, with_dimensions, is_too_large_type}
use Rattle.pli_declare.specs.Completed.{Variable, Completed, OfVariable, OfEntry, OfBuiltIn}
use Rattle.pli_declare.specs.declared.place.ItemPlace.{ItemPlace}
use Rattle.pli_declare.specs.declared.place.Position.{Position}
use Rattle.pli_declare.specs.declared.place.Position.TheVariants.{AtLevelOne, Member, Parameter}
use Rattle.pli_declare.specs.declared.place.Position.TheVariants.{Result}
use Rattle.pli_declare.specs.declared.completed.DeclaredStorage.{DeclaredStorage}
use Rattle.pli_declare.specs.declared.completed.DeclaredStorage.TheVariants as storage
use Rattle.pli_declare.specs.declared.completed.ScopeAttribute.TheVariants as scopes
use Rattle.pli_declarations.specs.Attributes.{each_once, has, is_at, may_be_open, agree_as_other}
use Rattle.pli_declarations.specs.Attributes.{agree_as_variable, is_missing}
use Rattle.pli_declarations.specs.Types.{number_of, has_star, is_up_to, is_bad_length, scalar_of, element_of}

-- codes

-- the first of these faults that holds
abbrev pub first_fault : List (Bool × Code) → Option Code
first_fault faults = option_map (λ fault. fault.1) (find (λ fault. fault.0) faults)

-- the lesser of two codes, if any
abbrev pub lesser : Option Code → Option Code → Option Code
lesser (Some c) (Some d) = Some (if nat_lt (code_place d) (code_place c) then d else c)
lesser c d = option_or c d

-- the least of codes
abbrev pub least : List (Option Code) → Option Code
least [] = None
least (c ∷ cs) = lesser c (least cs)

-- faults of attributes

-- whether attributes have each of these faults at a place and beside dimensions. A precision is one of 1 to
-- 63 digits; a `*` is the length of a parameter's string alone: of nothing else, and no area's size
abbrev pub shape_faults : ItemPlace → List WrittenBounds → List DescribedAttribute → List (Bool × Code)
shape_faults p dimensions attributes = (
  not (each_once 0 attributes
      && (agree_as_other p (is_array dimensions) attributes || agree_as_variable p attributes)),
  AttributesConflict,
)
    ∷ (is_missing p attributes, AttributesMissing)
    ∷ (has attributes (Plain (Fixed None)) && not (is_up_to 63 (number_of attributes)), BadPrecision)
    ∷ (
      is_bad_length attributes
          || has_star attributes && (not (may_be_open p) || has attributes (Plain (Area None))),
      BadLength,
    )
    ∷ (are_bad_bounds dimensions || are_bad_stars (may_be_open p) dimensions, BadBounds) ∷ []

-- whether they have this one: an AREA is no member, stands in no array and is not BASED
abbrev pub area_fault : ItemPlace → List WrittenBounds → List DescribedAttribute → Bool × Code
area_fault p dimensions attributes = (
  has attributes (Plain (Area None))
      && (is_at Member p.position || is_array dimensions || p.in_array
      || has attributes (Plain (written.Based None))),
  AreaNotAllowedHere,
)

-- how many elements a value of INITIAL is for: none where its factor is 0
abbrev pub elements_given : InitialValue → ℕ
elements_given (initial.Integer factor value) = unwrap_or factor 1
elements_given value = 1

-- INITIAL with members or with AREA, with a value that does not fit, or with more than there are elements
abbrev pub is_bad_initial : ItemPlace → List WrittenBounds → List DescribedAttribute → List InitialValue → Bool
is_bad_initial p dimensions attributes values =
    has attributes (Plain (Initial []))
    && (p.has_members || has attributes (Plain (Area None))
    || not (list_all (fits (scalar_of attributes)) values)
    || unwrap_or (option_map (λ elements. nat_lt elements (sum_by elements_given values))
    (elements_of p dimensions)) false)

-- the fault of an item's own attributes
abbrev pub own_fault : ItemPlace → Item → Option Code
own_fault p i =
    let attributes = map outermost i.attributes in
    first_fault (shape_faults p i.dimensions attributes
    ++ (is_bad_initial p i.dimensions attributes (values_in i.attributes), BadInitial)
    ∷ area_fault p i.dimensions attributes ∷ [])

-- the fault of what ENTRY or RETURNS describes
abbrev pub description_fault : Position → List WrittenBounds → List DescribedAttribute → Option Code
description_fault position dimensions attributes =
    let p : ItemPlace =
    record {
      position = position;
      has_members = false;
      in_array = false;
      elements_above = Some 1;
      built_in_name = false;
    } in
    first_fault (shape_faults p dimensions attributes ++ area_fault p dimensions attributes ∷ [])

-- that of a result, which is a scalar
abbrev pub result_fault : List DescribedAttribute → Option Code
result_fault attributes = description_fault Result [] attributes

-- the type of a parameter
abbrev pub type_taken : List WrittenBounds → List DescribedAttribute → ParameterType
type_taken dimensions attributes = with_dimensions dimensions (element_of attributes)

-- the type of a parameter that ENTRY describes
abbrev pub parameter_of : ParameterDescription → ParameterType
parameter_of d = type_taken d.dimensions d.attributes

-- the least fault of an item: of its attributes, of those in the descriptions of ENTRY's parameters and of
-- those in RETURNS; or else more than 64 parameters, or one that is too large
abbrev pub item_fault : ItemPlace → Item → Option Code
item_fault p i =
    let parameters = parameters_in i.attributes in
    option_or
    (least (own_fault p i
    ∷ least (map (λ d. description_fault Parameter d.dimensions d.attributes) parameters)
    ∷ option_and_then result_fault (returned_in i.attributes) ∷ []))
    (first_fault ((nat_lt 64 (length parameters), TooManyParameters)
    ∷ (list_any is_too_large_type (map parameter_of parameters), GenerationTooLarge) ∷ []))

-- what attributes are completed to

-- AUTOMATIC by default; EXTERNAL implies STATIC unless CONTROLLED or BASED stands
abbrev pub storage_of : List DescribedAttribute → DeclaredStorage
storage_of attributes =
    if has attributes (Plain written.Controlled) then storage.Controlled
    else if has attributes (Plain (written.Based None)) then storage.Based
    else if has attributes (Plain Static) || has attributes (Plain written.External) then storage.Static
    else storage.Automatic

-- an item as a variable; a member has the storage of the whole, a parameter that of its argument
abbrev pub variable_of : ItemPlace → Item → Variable
variable_of p i =
    let attributes = map outermost i.attributes in
    record {
      description = if p.has_members then None else Some (scalar_of attributes);
      bounds = all_bounds i.dimensions;
      taken =
          if may_be_open p && (has_star attributes || extents.has_star i.dimensions)
          then Some (type_taken i.dimensions attributes) else None;
      storage = if is_at AtLevelOne p.position then Some (storage_of attributes) else None;
      scope = if has attributes (Plain written.External) then scopes.External else scopes.Internal;
      initial = values_in i.attributes;
    }

-- what an item is
abbrev pub completed_of : ItemPlace → Item → Completed
completed_of p i =
    let attributes = map outermost i.attributes in
    if has attributes AnyEntry
    then OfEntry (map parameter_of (parameters_in i.attributes))
    (option_map scalar_of (returned_in i.attributes))
    else if has attributes (Plain Builtin) then OfBuiltIn
    else OfVariable (variable_of p i)
