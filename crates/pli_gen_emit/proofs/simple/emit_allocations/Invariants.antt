use Rattle.std.proofs.Common.{length, map, drop}
use Rattle.pli_type_tree.specs.views.TypedView.{allocated_view}
use Rattle.pli_gen_emit.specs.TreeTranslation.{allocations_code}
use Rattle.pli_gen_emit.proofs.EmitLemmas.{IsAmid}
use Rattle.pli_gen_emit.proofs.simple.emit_allocations.Given as goal

abbrev pub invariant-loop-item : goal.invariant-loop-item
invariant-loop-item l =
    IsAmid l.initial.code l.code (allocations_code (map allocated_view (drop l.item-index l.items)) (length l.code.code.items))
    (allocations_code (map allocated_view l.items) (length l.initial.code.code.items))
