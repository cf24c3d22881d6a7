-- References: which part of which variable is meant, and where the first fault stands.
use Rattle.std.specs.Prelude.{ℕ, zero, suc, ◌+◌, ◌*◌, nat_eq, Bool, true, false, ◌&&◌, Option, Some, None}
use Rattle.std.specs.Prelude.{option_map}
use Rattle.std.specs.Prelude.{option_and_then, List, [], ◌∷◌, ◌++◌, length, Result, if◌then◌else◌}
use Rattle.pli_base.specs.Reading.{at_fault}
use Rattle.pli_base.specs.declared.code.Code.TheVariants.{AggregateNotAllowedHere, WrongNumberOfSubscripts}
use Rattle.pli_base.specs.declared.code.Code.TheVariants.{LocatorMissingOrNotAllowed}
use Rattle.pli_base.specs.declared.token.Fault.{Fault}
use Rattle.pli_map.specs.Description as described
use Rattle.pli_map.specs.Description.{Description, Array, Structure}
use Rattle.pli_map.specs.ParameterTypes.{ParameterType, Stated, stated, element_type, is_aggregate_type}
use Rattle.pli_map.specs.PlacedParts.{member_after}
use Rattle.pli_map.specs.Sizes.{count_of, stride_of}
use Rattle.pli_map.specs.declared.description.Bounds.{Bounds}
use Rattle.pli_type_rules.specs.Beginnings.{whole_at}
use Rattle.pli_type_rules.specs.ExpressionTypes.{all_operands}
use Rattle.pli_type_rules.specs.Faults.{or_fault}
use Rattle.pli_type_rules.specs.Names.{NamedStorage, Begins, IsBased, NamedVariable, LocatorVariable}
use Rattle.pli_type_rules.specs.Names.{OfPointer}
use Rattle.pli_type_rules.specs.Names.{OfOffset}
use Rattle.pli_type_rules.specs.declared.beginning.Beginning.{Beginning}
use Rattle.pli_type_tree.specs.TypedTree.{Root, Located, Stride, TypedExpression, Held, TypedReference}
use Rattle.pli_type_tree.specs.TypedTree.{AsPointer, Whole, Part, ElementOf}
use Rattle.pli_type_tree.specs.TypedTree.{Subscripts, NoSubscript, SubscriptThen}

-- for what a reference stands: for one value; for an argument, or for what is assigned to an aggregate, which
-- may be an aggregate; for a target, which may be one too; for a locator, which is one value of a variable
pub data Role : Type 0 where
  AsValue AsArgument AsTarget AsLocator : Role

-- no aggregate may stand here
abbrev pub wants_scalar : Role → Bool
wants_scalar AsValue = true
wants_scalar AsLocator = true
wants_scalar role = false

-- parts of variables

-- a subscript's bounds with the bytes from one element to the next, of each dimension in turn: the last one
-- varies fastest
abbrev pub strides_of : List Bounds → (element : Description) → List Stride
strides_of [] element = []
strides_of (b ∷ bs) element =
    record { low = b.low; high = b.high; multiplier = count_of bs * stride_of element }
    ∷ strides_of bs element

-- a part of a variable: how far from the variable's beginning it stands where all subscripts are the
-- lowest, what it is, and the dimensions above it
pub record StridedPart : Type 0 where
  pub offset : ℕ
  pub description : Description
  pub strides : List Stride

-- one element of it, where it is an array
abbrev pub element_of : StridedPart → StridedPart
element_of p = element (p.description)
  where
    element : Description → StridedPart
    element (Array bounds d) =
        record { offset = p.offset; description = d; strides = p.strides ++ strides_of bounds d }
    element other = p

-- a member of it, or of one of its elements
abbrev pub member_of : StridedPart → (number : ℕ) → Option StridedPart
member_of p i = member ((element_of p).description)
  where
    member : Description → Option StridedPart
    member (Structure members) =
        option_map (λ m. record {
          offset = p.offset + m.offset;
          description = m.description;
          strides = (element_of p).strides;
        }) (member_after 0 members i)
    member other = None

-- the part that the members on a way lead to
abbrev pub part_on : StridedPart → (path : List ℕ) → Option StridedPart
part_on p [] = Some p
part_on p (i ∷ path) = option_and_then (λ m. part_on m path) (member_of p i)

-- a variable as a whole
abbrev pub whole_part : Description → StridedPart
whole_part d = record { offset = 0; description = d; strides = [] }

-- the part that a name leads to, all its subscripts being the lowest; none of what is open
abbrev pub part_of : NamedVariable → Option StridedPart
part_of v = option_and_then (λ d. part_on (whole_part d) v.path) (stated v.whole)

-- what is meant with so many subscripts: with those of all its levels one element, without any the whole, but
-- only where no level above it has subscripts; with another number nothing
abbrev pub with_subscripts : (given : ℕ) → StridedPart → Option StridedPart
with_subscripts given p =
    if nat_eq given (length (element_of p).strides) then Some (element_of p)
    else if nat_eq given 0 && nat_eq (length p.strides) 0 then Some p
    else None

-- each subscript with its stride
abbrev pub subscripts_at : List Stride → List TypedExpression → Subscripts
subscripts_at (s ∷ ss) (x ∷ xs) = SubscriptThen s x (subscripts_at ss xs)
subscripts_at strides xs = NoSubscript

-- a whole variable of its own, or a part
abbrev pub reference_to : Root → (path : List ℕ) → StridedPart → List TypedExpression → TypedReference
reference_to root [] p [] = Whole root
reference_to root path p xs = Part root p.offset p.description (subscripts_at p.strides xs)

-- parameters in which a `*` stands

-- what is meant with so many subscripts: without any the whole; with one for each dimension of an array an
-- element; with another number nothing
abbrev pub open_part : ParameterType → (given : ℕ) → Option ParameterType
open_part type zero = Some type
open_part type (suc n) = element_type (suc n) type

-- a whole parameter, or an element
abbrev pub open_reference : Root → List TypedExpression → TypedReference
open_reference root [] = Whole root
open_reference root (x ∷ xs) = ElementOf root (all_operands (x ∷ xs))

-- a variable or a part of one, a scalar, an area or an aggregate, with its type; whether it is, or is in, a
-- parameter; and the area that OFFSET in its declaration names
pub record Referent : Type 0 where
  pub reference : TypedReference
  pub description : ParameterType
  pub is_parameter : Bool
  pub area : Option Beginning

-- where references begin

-- a reference to what leads to BASED variables: a POINTER, or an OFFSET whose declaration names an area
abbrev pub locator_at : TypedReference → ParameterType → (area : Option Beginning) → Option LocatorVariable
locator_at reference (Stated described.Pointer) area = Some (OfPointer reference)
locator_at reference (Stated described.Offset) (Some area) = Some (OfOffset reference area)
locator_at reference type area = None

-- the pointer that such a variable gives: an offset is one in its area
abbrev pub pointer_of : LocatorVariable → TypedExpression
pointer_of (OfPointer reference) = Held reference
pointer_of (OfOffset reference area) = AsPointer (whole_at area) (Held reference)

-- what stands in front of a name: no arrow, or an arrow after a locator, which gives this pointer, or after
-- what leads nowhere
pub data LocatorBefore : Type 0 where
  NotLocated : LocatorBefore
  LocatedBy : (locator : TypedExpression) → LocatorBefore
  LocatedWrongly : LocatorBefore

-- a locator in front of an arrow, if one stands there
abbrev pub located_by : Option LocatorVariable → LocatorBefore
located_by None = LocatedWrongly
located_by (Some locator) = LocatedBy (pointer_of locator)

-- where a reference begins that is in storage of this description: where that begins, if no locator stands in
-- front of it; or where the locator of a BASED variable leads: a written one takes the place of the one that
-- BASED names
abbrev pub root_by : NamedStorage → (whole : Description) → LocatorBefore → Option Root
root_by (Begins root is_parameter) whole NotLocated = Some root
root_by (IsBased block number (Some implied)) whole NotLocated =
    Some (Located (pointer_of implied) whole)
root_by (IsBased block number implied) whole (LocatedBy locator) = Some (Located locator whole)
root_by storage whole locator = None

-- where a reference begins that is in the storage of a parameter in which a `*` stands: no locator stands in
-- front of it
abbrev pub passed_root : NamedStorage → LocatorBefore → Option Root
passed_root (Begins root is_parameter) NotLocated = Some root
passed_root storage locator = None

-- the storage is a parameter's
abbrev pub is_passed : NamedStorage → Bool
is_passed (Begins root is_parameter) = is_parameter
is_passed (IsBased block number implied) = false

-- T2 where no aggregate may stand; then T10 where a reference begins nowhere: without a locator that is a
-- POINTER or an OFFSET which names an area, where the variable is BASED, or with a locator, where it is not
abbrev pub permitted : Role → (at : ℕ) → ParameterType → Option Referent → Result Referent Fault
permitted role at type r =
    if wants_scalar role && is_aggregate_type type then at_fault AggregateNotAllowedHere at
    else or_fault LocatorMissingOrNotAllowed at r

-- a reference to a part of a variable, with all its subscripts, from where it begins
abbrev pub referent_from : NamedVariable → List TypedExpression → StridedPart → Root → Referent
referent_from v xs p root = record {
  reference = reference_to root v.path p xs;
  description = Stated p.description;
  is_parameter = is_passed v.storage;
  area = v.area;
}

-- a reference to a variable of this description, with all its subscripts; T3 where their number is wrong
abbrev pub settled : Role → LocatorBefore → (at : ℕ) → NamedVariable → (whole : Description)
    → List TypedExpression → Option StridedPart → Result Referent Fault
settled role locator at v whole xs None = at_fault WrongNumberOfSubscripts at
settled role locator at v whole xs (Some p) =
    permitted role at (Stated p.description)
    (option_map (referent_from v xs p) (root_by v.storage whole locator))

-- a reference to a parameter in which a `*` stands, or to an element of it, from where it begins
abbrev pub open_referent : NamedVariable → List TypedExpression → ParameterType → Root → Referent
open_referent v xs type root = record {
  reference = open_reference root xs;
  description = type;
  is_parameter = is_passed v.storage;
  area = v.area;
}

-- the same, with its subscripts; T3 where their number is wrong
abbrev pub open_settled : Role → LocatorBefore → (at : ℕ) → NamedVariable → List TypedExpression
    → Option ParameterType → Result Referent Fault
open_settled role locator at v xs None = at_fault WrongNumberOfSubscripts at
open_settled role locator at v xs (Some type) =
    permitted role at type (option_map (open_referent v xs type) (passed_root v.storage locator))

-- a reference to a variable or a part of one, by the description of the variable, which is none where a `*`
-- stands in it
abbrev pub whole_meant : Role → LocatorBefore → (at : ℕ) → NamedVariable → List TypedExpression
    → (whole : Option Description) → Result Referent Fault
whole_meant role locator at v xs (Some d) =
    settled role locator at v d xs
    (option_and_then (with_subscripts (length xs)) (part_of v))
whole_meant role locator at v xs None =
    open_settled role locator at v xs (open_part v.whole (length xs))

-- a reference to a variable or a part of one, with its subscripts
abbrev pub variable_meant : Role → LocatorBefore → (at : ℕ) → NamedVariable → List TypedExpression
    → Result Referent Fault
variable_meant role locator at v xs = whole_meant role locator at v xs (stated v.whole)
