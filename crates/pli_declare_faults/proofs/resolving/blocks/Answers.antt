use Rattle.std.proofs.Common.{◌∷◌, [], map, ap, ◌∙◌}
use Rattle.std.proofs.lemmas.List.{map-append}
use Rattle.pli_declare_outline.specs.views.OutlineView.{outline_view}
use Rattle.pli_declare.specs.Resolved.{block_at}
use Rattle.pli_declare.specs.views.BlockView.{block_view}
use Rattle.pli_declare_faults.proofs.NumberLists.{one_more}
use Rattle.pli_declare_faults.proofs.resolving.blocks.Goals as goal

pub loop-block-preserved : goal.loop-block-preserved
loop-block-preserved c =
    ap (map block_view) c.in_ok-push.ensures.items ∙ map-append block_view c.loop-block.blocks.items (c.in_ok-declared.declared ∷ [])
    ∙ one_more (block_at (outline_view c.args.outline.now)) c.loop-block.block (map block_view c.loop-block.blocks.items)
    (block_view c.in_ok-declared.declared) c.loop-block.invariant c.in_ok-declared.ensures
