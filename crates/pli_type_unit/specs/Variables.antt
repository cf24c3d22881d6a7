-- References to variables and parts of them: which part is meant, and where the first fault stands.
use Rattle.std.specs.Prelude.{ℕ, ◌&&◌, Option, Some, None, option_map, option_and_then, List, length, Result}
use Rattle.std.specs.Prelude.{Ok}
use Rattle.std.specs.Prelude.{if◌then◌else◌}
use Rattle.pli_base.specs.Reading.{at_fault}
use Rattle.pli_base.specs.Results.{◌>>=◌}
use Rattle.pli_base.specs.declared.code.Code.TheVariants.{AggregateNotAllowedHere, WrongNumberOfSubscripts}
use Rattle.pli_base.specs.declared.code.Code.TheVariants.{LocatorMissingOrNotAllowed}
use Rattle.pli_base.specs.declared.token.Fault.{Fault}
use Rattle.pli_map.specs.Description.{Description}
use Rattle.pli_map.specs.ParameterTypes.{ParameterType, Stated, stated, is_aggregate_type}
use Rattle.pli_type_rules.specs.Faults.{or_fault}
use Rattle.pli_type_rules.specs.Names.{NamedStorage, Begins, IsBased, NamedVariable, LocatorVariable}
use Rattle.pli_type_rules.specs.References.{Role, wants_scalar, LocatorBefore, NotLocated, LocatedBy}
use Rattle.pli_type_rules.specs.References.{LocatedWrongly}
use Rattle.pli_type_rules.specs.References.{Referent, is_passed, open_part, open_reference, part_of}
use Rattle.pli_type_rules.specs.References.{pointer_of}
use Rattle.pli_type_rules.specs.References.{reference_to, with_subscripts}
use Rattle.pli_type_tree.specs.TypedTree.{Located, Root, TypedExpression, TypedReference}

-- a part of a variable, as a reference to it from where that begins, and its type
pub record MeantPart : Type 0 where
  pub from : Root → TypedReference
  pub type : ParameterType

-- the part that a name means with these subscripts, if their number is right: of a parameter in which a `*`
-- stands, or of a variable, all of which is described
abbrev pub part_meant : NamedVariable → List TypedExpression → (whole : Option Description) → Option MeantPart
part_meant v xs None =
    option_map (λ type. record { from = λ root. open_reference root xs; type = type })
    (open_part v.whole (length xs))
part_meant v xs (Some d) =
    option_map (λ p. record { from = λ root. reference_to root v.path p xs; type = Stated p.description })
    (option_and_then (with_subscripts (length xs)) (part_of v))

-- the pointer that leads to a BASED variable: of the locator in front of it, or else of the one that BASED
-- names
abbrev pub pointer_before : (implied : Option LocatorVariable) → LocatorBefore → Option TypedExpression
pointer_before implied NotLocated = option_map pointer_of implied
pointer_before implied (LocatedBy pointer) = Some pointer
pointer_before implied LocatedWrongly = None

-- where a reference begins that is in storage of this description, which is none where a `*` stands in it:
-- where that begins, if no locator stands in front of it; or where the locator of a BASED variable leads
abbrev pub root_by : NamedStorage → (whole : Option Description) → LocatorBefore → Option Root
root_by (Begins root is_parameter) whole NotLocated = Some root
root_by (IsBased block number implied) (Some whole) locator =
    option_map (λ pointer. Located pointer whole) (pointer_before implied locator)
root_by storage whole locator = None

-- a reference to a variable or a part of one, with its subscripts: T3 where their number is wrong; then T2
-- where no aggregate may stand; then T10 where it begins nowhere: without a locator that is a POINTER or an
-- OFFSET which names an area, where the variable is BASED, or with a locator, where it is not
abbrev pub variable_meant : Role → LocatorBefore → (at : ℕ) → NamedVariable → List TypedExpression
    → Result Referent Fault
variable_meant role locator at v xs = do
  part ← or_fault WrongNumberOfSubscripts at (part_meant v xs (stated v.whole))
  root ← if wants_scalar role && is_aggregate_type part.type then at_fault AggregateNotAllowedHere at
      else or_fault LocatorMissingOrNotAllowed at (root_by v.storage (stated v.whole) locator)
  Ok (record {
    reference = part.from root;
    description = part.type;
    is_parameter = is_passed v.storage;
    area = v.area;
  })
