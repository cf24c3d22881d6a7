use Rattle.std.proofs.Common.{drop, length}
use Rattle.pli_type_tree.specs.views.TypedView.{statements_view}
use Rattle.pli_gen_emit.specs.TreeTranslation.{list_code}
use Rattle.pli_gen_emit.proofs.EmitLemmas.{IsAmid}
use Rattle.pli_gen_emit.proofs.statement.+emit.Given as goal

-- the code so far and that of what is left is the code before and that of all
abbrev pub invariant-emit_list-loop-statement : goal.invariant-emit_list-loop-statement
invariant-emit_list-loop-statement l =
    IsAmid l.initial.code l.code (list_code (statements_view (drop l.statement-index l.statements)) (length l.code.code.items))
    (list_code (statements_view l.statements) (length l.initial.code.code.items))
