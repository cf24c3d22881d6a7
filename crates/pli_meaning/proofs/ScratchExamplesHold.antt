-- The worked example of a build and of its runs, by computing it.
use Rattle.std.specs.Prelude.{refl}
use Rattle.pli_base.specs.Reading.{misfit, taken, misplaced}
use Rattle.pli_base.specs.Words.{rest_after, name_first}
use Rattle.pli_declarations.specs.Units.{resolution_faults}
use Rattle.pli_declare.specs.Extents.{are_bad_bounds}
use Rattle.pli_declarations.specs.Walk.{outline_of}
use Rattle.pli_deck_write.specs.DeckBytes.{type_bytes, code_bytes}
use Rattle.pli_include.specs.Expansion.{read_pieces, included, expanded_within}
use Rattle.pli_include.specs.Pieces.{pieces_after}
use Rattle.pli_lex.specs.Reading.{string_from, token_at, closing_width, piece_at, tokens_after}
use Rattle.pli_meaning.specs.Scratch.{parsed_of, compiled_of, scratch}
use Rattle.pli_parse_declaration.specs.DeclarationReading.{number_at, integer_at, name_at, identifier_at}
use Rattle.pli_parse_declaration.specs.DeclarationReading.{level_at}
use Rattle.pli_parse_expression.specs.Assignments.{accepts, is_assignment}
use Rattle.pli_parse_expression.specs.Operators.{joining_at, begins_expression}
use Rattle.pli_grammar.specs.Declarations.{described_within}
use Rattle.pli_grammar.specs.Expressions.{infix_from, further, joined, inside}
use Rattle.pli_grammar.specs.Readers.{parts_from, listed}
use Rattle.pli_grammar.specs.StatementParts.{options_from}
use Rattle.pli_grammar.specs.UnitReading.{list_from, inside_of, unit_of}
use Rattle.pli_parse_statement.specs.StatementReading.{label_at}
use Rattle.pli_parse_statement.specs.StatementWords.{up_to_semicolon, begins_assignment}
use Rattle.pli_type_unit.specs.Statements.{typed_unit}
use Rattle.std.specs.Fmt.{digits}
use Rattle.pli_operation.specs.Operations.{calculated}
use Rattle.pli_world.specs.World.{nothing, made_of, entered, left_by, stepped, at_statement, height_of}
use Rattle.pli_world.specs.World.{slot_place, parts_held, parts_stored, held, stored, printed}
use Rattle.pli_world.specs.Ends.{Ended, OutOfSteps}
use Rattle.pli_meaning.specs.examples.ScratchExamples.{FirstIsMade, RunsWithThree, RunsWithTwo, TypesAreTold}

pub first_is_made : FirstIsMade
unfolding misfit taken misplaced rest_after name_first resolution_faults are_bad_bounds outline_of read_pieces included expanded_within pieces_after string_from token_at closing_width piece_at tokens_after parsed_of compiled_of scratch number_at integer_at name_at identifier_at level_at accepts is_assignment joining_at begins_expression infix_from further joined inside label_at parts_from options_from list_from inside_of listed described_within unit_of up_to_semicolon begins_assignment typed_unit type_bytes code_bytes
first_is_made = refl

pub types_are_told : TypesAreTold
unfolding misfit taken misplaced rest_after name_first resolution_faults are_bad_bounds outline_of read_pieces included expanded_within pieces_after string_from token_at closing_width piece_at tokens_after parsed_of compiled_of scratch number_at integer_at name_at identifier_at level_at accepts is_assignment joining_at begins_expression infix_from further joined inside label_at parts_from options_from list_from inside_of listed described_within unit_of up_to_semicolon begins_assignment typed_unit digits
types_are_told = refl

pub runs_with_three : RunsWithThree
unfolding nothing made_of entered left_by stepped at_statement height_of slot_place parts_held parts_stored held stored calculated printed digits
runs_with_three = record { count = 13; ending = Ended; world = _; over = refl; gives = refl }

pub runs_with_two : RunsWithTwo
unfolding nothing made_of entered left_by stepped at_statement height_of slot_place parts_held parts_stored held stored calculated printed digits
runs_with_two = record { count = 8; ending = OutOfSteps; world = _; over = refl; gives = refl }
