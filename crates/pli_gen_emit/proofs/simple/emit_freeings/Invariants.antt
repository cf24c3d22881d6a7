use Rattle.std.proofs.Common.{map, drop}
use Rattle.pli_type_tree.specs.views.TypedView.{freed_view}
use Rattle.pli_gen_emit.specs.TreeTranslation.{freeings_code}
use Rattle.pli_gen_emit.proofs.EmitLemmas.{IsAmid}
use Rattle.pli_gen_emit.proofs.simple.emit_freeings.Given as goal

abbrev pub invariant-loop-item : goal.invariant-loop-item
invariant-loop-item l =
    IsAmid l.initial.code l.code (freeings_code (map freed_view (drop l.item-index l.items))) (freeings_code (map freed_view l.items))
