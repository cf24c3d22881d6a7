-- What the type checker gives for a unit that was read.
use Rattle.std.specs.Prelude.{◌≡◌, ℕ, true, Option, Some, None, List, [], ◌∷◌, Ok, refl}
use Rattle.std.proofs.lemmas.Bool.{and_parts, false≢true}
use Rattle.pli_gen.specs.WellNumbered.{IsWellNumbered}
use Rattle.pli_meaning_typed.specs.TypedPrograms.{IsTypedUnit}
use Rattle.pli_declare.specs.ResolvedUnits.{ResolvedUnit, all_symbols, meaning_at, resolved_unit_of}
use Rattle.pli_map.specs.Description.{Description}
use Rattle.pli_map.specs.ParameterTypes.{ParameterType}
use Rattle.pli_type_rules.specs.Checked.{checked, is_main, is_nothing, unit_of}
use Rattle.pli_type_rules.specs.Names.{NamedUnit}
use Rattle.pli_type_rules.specs.StatementTyping.{WithProcedures}
use Rattle.pli_type_rules.specs.NamedUnits.{is_automatic, is_based, all_globals, area_named, block_symbols, parameters_of, returned_of, returned_area_of, names_based, named_as}
use Rattle.pli_type_rules.specs.NamedUnits.{named_unit, templates_of, checked_unit}
use Rattle.pli_type_laws.proofs.NumberedUnits.{units_are_numbered}
use Rattle.pli_type_laws.proofs.TypedParts.{unit_given}
use Rattle.pli_type_laws.proofs.Units.{unit_is_typed}
use Rattle.pli_type_laws.specs.TypedUnits.{MainTakesNothing, CheckedIsTyped}
use Rattle.pli_type_laws.specs.Nesting.{ListNests}
use Rattle.pli_type_laws.specs.Numbering.{AreNumbered}
use Rattle.pli_type_laws.specs.UnitBlocks.{BlocksAreOfTree}
use Rattle.pli_type_laws.proofs.BasedNames.{based_known}
use Rattle.pli_type_laws.proofs.BlocksOfUnits.{blocks_are_of_tree}
use Rattle.pli_type_laws.proofs.NameFactsHold.{facts_hold}
use Rattle.pli_type_laws.proofs.NestingHolds.{unit_nests}
use Rattle.pli_type_laws.proofs.NumberingHolds as numbering
use Rattle.pli_type_tree.specs.TypedTree.{Signature, TypedStatements, TypedUnit}

abbrev nothing_given : Signature
nothing_given = record { parameters = []; result = None }

module _ (r : ResolvedUnit) (t : TypedUnit) (nests : ListNests true 63 r.tree.statements) where
  resolved_is_typed : BlocksAreOfTree r → checked_unit r ≡ Ok t → IsTypedUnit 63 t
  unfolding checked_unit
  resolved_is_typed blocks e =
      unit_is_typed r.tree (λ at. names_based (named_as 63 r [] (meaning_at r at)))
      (λ blocks block. templates_of (is_based 63) (block_symbols r block)) (λ blocks block. area_named 63 r blocks (returned_area_of r block))
      (λ blocks at. named_as 63 r blocks (meaning_at r at))
      (parameters_of r) (returned_of r) (λ block. templates_of (is_automatic 63) (block_symbols r block))
      (all_globals 63 (all_symbols r)) (facts_hold r blocks) nests t e

  resolved_is_numbered : (from : ℕ) → AreNumbered from r.tree.statements → checked_unit r ≡ Ok t → IsWellNumbered t
  unfolding checked_unit
  resolved_is_numbered from h e = units_are_numbered (named_unit 63 r) t from h nests (based_known r) e

nothing_there : (types : List ParameterType) (o : Option Description) → is_nothing types o ≡ true
    → record { parameters = types; result = o } ≡ nothing_given
nothing_there [] None e = refl
nothing_there [] (Some d) e = absurd (false≢true e)
nothing_there (t ∷ ts) o e = absurd (false≢true e)

unit_takes_nothing : (u : NamedUnit) (y : WithProcedures TypedStatements) → MainTakesNothing (unit_of u y)
unit_takes_nothing u y is =
    nothing_there (u.parameters 0) (u.returned 0) (and_parts (is_main u.tree) (is_nothing (u.parameters 0) (u.returned 0)) is).1

main_takes_nothing : (r : ResolvedUnit) (t : TypedUnit) → checked_unit r ≡ Ok t → MainTakesNothing t
unfolding checked_unit checked
main_takes_nothing r t e = unit_given (named_unit 63 r) MainTakesNothing _ t (λ y is. unit_takes_nothing (named_unit 63 r) y) e

pub checked_is_typed : CheckedIsTyped
checked_is_typed texts u read t e =
    let numbers : (from : ℕ) × AreNumbered from u.statements = numbering.units_are_numbered texts u read in
    let nests : ListNests true 63 u.statements = unit_nests texts u read in (
      resolved_is_typed (resolved_unit_of u) t nests (blocks_are_of_tree u) e,
      resolved_is_numbered (resolved_unit_of u) t nests numbers.0 numbers.1 e,
      main_takes_nothing (resolved_unit_of u) t e,
    )
