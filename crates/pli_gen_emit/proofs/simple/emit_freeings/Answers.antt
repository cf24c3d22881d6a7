use Rattle.std.proofs.Common.{map, refl, arith}
use Rattle.pli_type_tree.specs.views.TypedView.{freed_view}
use Rattle.pli_gen_emit.specs.TreeTranslation.{freeing_code, freeings_code}
use Rattle.pli_gen_emit.proofs.EmitLemmas.{amid_next}
use Rattle.pli_gen_emit.proofs.simple.emit_freeings.Goals as goal

pub loop-item-preserved : goal.loop-item-preserved
loop-item-preserved c =
    amid_next (λ xs. freeings_code (map freed_view xs)) (λ x. freeing_code (freed_view x)) c.args.code.now c.loop-item.code c.emit_freeing.new.code
    c.args.items.now c.loop-item.item-index c.item-item.result (freeings_code (map freed_view c.args.items.now))
    (λ x ys. refl) (omega arith) c.item-item.is c.emit_freeing.ensures c.loop-item.invariant
