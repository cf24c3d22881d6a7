use Rattle.std.proofs.Common.{drop, map}
use Rattle.pli_type_tree.specs.views.TypedView.{operation_view}
use Rattle.pli_gen_emit.specs.TreeTranslation.{operations_code}
use Rattle.pli_gen_emit.proofs.EmitLemmas.{IsAmid}
use Rattle.pli_gen_emit.proofs.conversion.emit_operations.Given as goal

abbrev pub invariant-loop-operation : goal.invariant-loop-operation
invariant-loop-operation l =
    IsAmid l.initial.code l.code (operations_code (map operation_view (drop l.operation-index l.operations))) (operations_code (map operation_view l.operations))
