use Rattle.std.proofs.Common.{◌+◌, map, drop}
use Rattle.pli_base.specs.views.StatementView as source
use Rattle.pli_type_tree.specs.views.TypedView.{statement_view}
use Rattle.pli_type_walk.specs.NumbersTaken.{taken_among}
use Rattle.pli_type_walk.specs.Walking.{HasRoom, IsBack, next_at}
use Rattle.pli_type_statement.proofs.SizeLemmas.{statement_size, body_size, list_size}
use Rattle.pli_type_statement.proofs.TurnLemmas.{GoesOn}
use Rattle.pli_type_statement.proofs.statement.+typed.Given as goal

-- what is done with the statements that are left is done with all
abbrev pub invariant-type_statements-loop-statement : goal.invariant-type_statements-loop-statement
invariant-type_statements-loop-statement l = record {
  back : IsBack l.initial.walk l.walk;
  goes : GoesOn l.initial.walk l.walk l.complete (map statement_view l.typed.items) (source.statements_view l.statements)
      (source.statements_view (drop l.statement-index l.statements));
  room : HasRoom (next_at l.walk) (taken_among (source.statements_view (drop l.statement-index l.statements)));
}

abbrev pub decreases-type_statement : goal.decreases-type_statement
decreases-type_statement l = statement_size (source.statement_view l.statement.now)

abbrev pub decreases-type_body : goal.decreases-type_body
decreases-type_body l = body_size (source.body_view l.body.now)

abbrev pub decreases-type_block : goal.decreases-type_block
decreases-type_block l = list_size (source.statements_view l.statements.now) + 1

abbrev pub decreases-type_group : goal.decreases-type_group
decreases-type_group l = list_size (source.statements_view l.statements.now) + 1

abbrev pub decreases-type_statements : goal.decreases-type_statements
decreases-type_statements l = list_size (source.statements_view l.statements.now)
