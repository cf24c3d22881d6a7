use Rattle.std.proofs.Common.{◌≡◌, ◌≤◌, ◌+◌, ◌*◌, length}
use Rattle.pli_base.specs.Statements.{list_count}
use Rattle.pli_base.specs.views.StatementView.{statements_view}
use Rattle.pli_parse_statement.specs.StatementReading.{list_in, statement_at}
use Rattle.pli_parse_statement.specs.answers.StatementAnswers.{inside_at, context_view}
use Rattle.pli_parse.proofs.StatementRows.{RowsLeft}
use Rattle.pli_parse.proofs.reader.+reader.Given as goal

-- Each call is where fewer levels may be opened, or on a part of the same statement.
abbrev pub decreases-statement_at : goal.decreases-statement_at
decreases-statement_at l = 10 * l.levels + 4

abbrev pub decreases-statement_begun : goal.decreases-statement_begun
decreases-statement_begun l = 10 * l.levels + 3

abbrev pub decreases-body_at : goal.decreases-body_at
decreases-body_at l = 10 * l.levels + 2

abbrev pub decreases-keyed_at : goal.decreases-keyed_at
decreases-keyed_at l = 10 * l.levels + 1

abbrev pub decreases-list_in : goal.decreases-list_in
decreases-list_in l = 10 * l.levels + 4

abbrev pub decreases-alternative_at : goal.decreases-alternative_at
decreases-alternative_at l = 10 * l.levels + 5

abbrev pub decreases-begin_at : goal.decreases-begin_at
decreases-begin_at l = 10 * l.levels + 6

abbrev pub decreases-do_at : goal.decreases-do_at
decreases-do_at l = 10 * l.levels + 6

abbrev pub decreases-procedure_at : goal.decreases-procedure_at
decreases-procedure_at l = 10 * l.levels + 6

abbrev pub decreases-if_at : goal.decreases-if_at
decreases-if_at l = 10 * l.levels + 6

abbrev pub decreases-on_at : goal.decreases-on_at
decreases-on_at l = 10 * l.levels + 6

-- the statements that were read, in front of those that are left, are all of them
abbrev pub invariant-list_in-loop-statements : goal.invariant-list_in-loop-statements
invariant-list_in-loop-statements l =
    record {
      value : RowsLeft (statement_at l.levels) (context_view l.context) l.label l.statements.items l.next l.count l.rest
          (list_in (inside_at l.levels) (context_view l.context) l.label l.fn.at l.fn.number l.fn.texts);
      numbers : l.count ≡ l.fn.number + list_count (statements_view l.statements.items);
      place : (l.fn.number ≤ l.count) × (l.count + l.fn.at ≤ l.next + l.fn.number) × (l.next + length l.rest ≡ l.fn.at + length l.fn.texts);
    }

abbrev pub decreases-list_in-loop-statements : goal.decreases-list_in-loop-statements
decreases-list_in-loop-statements l = length l.rest
