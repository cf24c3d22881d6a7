use Rattle.std.proofs.Common.{map, drop}
use Rattle.pli_type_tree.specs.views.TypedView.{expression_view}
use Rattle.pli_gen_emit.specs.TreeTranslation.{items_code}
use Rattle.pli_gen_emit.proofs.EmitLemmas.{IsAmid}
use Rattle.pli_gen_emit.proofs.simple.emit_items.Given as goal

abbrev pub invariant-loop-item : goal.invariant-loop-item
invariant-loop-item l =
    IsAmid l.initial.code l.code (items_code (map expression_view (drop l.item-index l.items))) (items_code (map expression_view l.items))
