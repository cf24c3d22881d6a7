-- References to variables, as the type checker finds them.
use Rattle.std.specs.Prelude.{◌≡◌, ℕ, Bool, true, false, ◌&&◌, Option, Some, None, option_map, option_and_then, refl, List, length, Result, Ok, if◌then◌else◌}
use Rattle.std.proofs.Common.{ap, ◌∙◌}
use Rattle.pli_base.specs.Reading.{at_fault}
use Rattle.pli_base.specs.Results.{◌>>=◌}
use Rattle.pli_base.specs.declared.code.Code.TheVariants.{AggregateNotAllowedHere, WrongNumberOfSubscripts}
use Rattle.pli_base.specs.declared.code.Code.TheVariants.{LocatorMissingOrNotAllowed}
use Rattle.pli_base.specs.declared.token.Fault.{Fault}
use Rattle.pli_map.specs.Description.{Description}
use Rattle.pli_map.specs.ParameterTypes.{ParameterType, Stated, stated, is_aggregate_type}
use Rattle.pli_type_rules.specs.Faults.{or_fault}
use Rattle.pli_type_rules.specs.Names.{NamedStorage, Begins, IsBased, NamedVariable}
use Rattle.pli_type_rules.specs.References as old
use Rattle.pli_type_rules.specs.References.{Role, wants_scalar, LocatorBefore, NotLocated, LocatedBy, LocatedWrongly}
use Rattle.pli_type_rules.specs.References.{Referent, is_passed, open_part, open_reference, part_of, StridedPart}
use Rattle.pli_type_rules.specs.References.{reference_to, with_subscripts}
use Rattle.pli_type_tree.specs.TypedTree.{Root, TypedExpression}
use Rattle.pli_type_unit.specs.Variables as new
use Rattle.pli_type_unit.specs.Variables.{MeantPart, part_meant}

open_root : (storage : NamedStorage) (locator : LocatorBefore) → new.root_by storage None locator ≡ old.passed_root storage locator
open_root (Begins root is_parameter) NotLocated = refl
open_root (Begins root is_parameter) (LocatedBy pointer) = refl
open_root (Begins root is_parameter) LocatedWrongly = refl
open_root (IsBased block number implied) NotLocated = refl
open_root (IsBased block number implied) (LocatedBy pointer) = refl
open_root (IsBased block number implied) LocatedWrongly = refl

whole_root : (storage : NamedStorage) (d : Description) (locator : LocatorBefore) → new.root_by storage (Some d) locator ≡ old.root_by storage d locator
whole_root (Begins root is_parameter) d NotLocated = refl
whole_root (Begins root is_parameter) d (LocatedBy pointer) = refl
whole_root (Begins root is_parameter) d LocatedWrongly = refl
whole_root (IsBased block number None) d NotLocated = refl
whole_root (IsBased block number None) d (LocatedBy pointer) = refl
whole_root (IsBased block number None) d LocatedWrongly = refl
whole_root (IsBased block number (Some implied)) d NotLocated = refl
whole_root (IsBased block number (Some implied)) d (LocatedBy pointer) = refl
whole_root (IsBased block number (Some implied)) d LocatedWrongly = refl

module _ (role : Role) (locator : LocatorBefore) (at : ℕ) (v : NamedVariable) (xs : List TypedExpression) where
  -- from where a part begins
  abbrev from : MeantPart → Root → Referent
  from part root = record { reference = part.from root; description = part.type; is_parameter = is_passed v.storage; area = v.area }

  -- with the storage of the variable
  abbrev after : (whole : Option Description) → MeantPart → Result Referent Fault
  after whole part =
      (if wants_scalar role && is_aggregate_type part.type then at_fault AggregateNotAllowedHere at
      else or_fault LocatorMissingOrNotAllowed at (new.root_by v.storage whole locator))
      >>= λ root. Ok (from part root)

  finished : (part : MeantPart) (b : Bool) (o : Option Root)
      → ((if b then at_fault AggregateNotAllowedHere at else or_fault LocatorMissingOrNotAllowed at o) >>= λ root. Ok (from part root))
      ≡ (if b then at_fault AggregateNotAllowedHere at else or_fault LocatorMissingOrNotAllowed at (option_map (from part) o))
  finished part true o = refl
  finished part false None = refl
  finished part false (Some root) = refl

  open_alike : (o : Option ParameterType)
      → (or_fault WrongNumberOfSubscripts at (option_map (λ type. record { from = λ root. open_reference root xs; type = type }) o) >>= after None)
      ≡ old.open_settled role locator at v xs o
  open_alike None = refl
  open_alike (Some type) =
      let part : MeantPart = record { from = λ root. open_reference root xs; type = type } in
      finished part (wants_scalar role && is_aggregate_type type) (new.root_by v.storage None locator)
      ∙ ap (λ o. old.permitted role at type (option_map (old.open_referent v xs type) o)) (open_root v.storage locator)

  whole_alike : (d : Description) (o : Option StridedPart)
      → (or_fault WrongNumberOfSubscripts at (option_map (λ p. record { from = λ root. reference_to root v.path p xs; type = Stated p.description }) o) >>= after (Some d))
      ≡ old.settled role locator at v d xs o
  whole_alike d None = refl
  whole_alike d (Some p) =
      let part : MeantPart = record { from = λ root. reference_to root v.path p xs; type = Stated p.description } in
      finished part (wants_scalar role && is_aggregate_type (Stated p.description)) (new.root_by v.storage (Some d) locator)
      ∙ ap (λ o. old.permitted role at (Stated p.description) (option_map (old.referent_from v xs p) o)) (whole_root v.storage d locator)

  described_alike : (o : Option Description) → (or_fault WrongNumberOfSubscripts at (part_meant v xs o) >>= after o) ≡ old.whole_meant role locator at v xs o
  described_alike None = open_alike (open_part v.whole (length xs))
  described_alike (Some d) = whole_alike d (option_and_then (with_subscripts (length xs)) (part_of v))

  pub variable_alike : new.variable_meant role locator at v xs ≡ old.variable_meant role locator at v xs
  variable_alike = described_alike (stated v.whole)
