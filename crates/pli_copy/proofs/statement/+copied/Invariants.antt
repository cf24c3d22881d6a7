use Rattle.std.proofs.Common.{◌≡◌, take, map}
use Rattle.pli_base.specs.views.StatementView.{statement_view}
use Rattle.pli_copy.proofs.statement.+copied.Given as goal

abbrev pub invariant-copied_statements-loop-statement : goal.invariant-copied_statements-loop-statement
invariant-copied_statements-loop-statement l = map statement_view l.copied.items ≡ map statement_view (take l.statement-index l.statements)
