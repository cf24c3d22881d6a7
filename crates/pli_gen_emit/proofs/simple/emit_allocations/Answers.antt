use Rattle.std.proofs.Common.{length, map, refl, arith}
use Rattle.pli_type_tree.specs.views.TypedView.{allocated_view}
use Rattle.pli_gen_emit.specs.TreeTranslation.{allocation_code, allocations_code}
use Rattle.pli_gen_emit.proofs.PlacedLemmas.{placed_amid}
use Rattle.pli_gen_emit.proofs.simple.emit_allocations.Goals as goal

pub loop-item-preserved : goal.loop-item-preserved
loop-item-preserved c =
    placed_amid (λ xs p. allocations_code (map allocated_view xs) p) (λ x p. allocation_code (allocated_view x) p) (λ x xs p. refl)
    c.args.code.now c.loop-item.code c.emit_allocation.new.code
    c.args.items.now c.loop-item.item-index c.item-item.result (allocations_code (map allocated_view c.args.items.now) (length c.args.code.now.code.items))
    (omega arith) c.item-item.is c.emit_allocation.ensures c.loop-item.invariant
