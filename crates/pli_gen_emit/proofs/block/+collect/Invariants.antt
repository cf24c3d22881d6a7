use Rattle.std.proofs.Common.{◌≡◌, ◌++◌, drop, None}
use Rattle.pli_type_tree.specs.views.TypedView.{statements_view}
use Rattle.pli_gen_emit.specs.TreeTranslation.{blocks_among}
use Rattle.pli_gen_emit.specs.views.BlockView.{block_trees}
use Rattle.pli_gen_emit.proofs.block.+collect.Given as goal

-- the blocks so far and those of what is left are those before and all
abbrev pub invariant-collect_among-loop-statement : goal.invariant-collect_among-loop-statement
invariant-collect_among-loop-statement l =
    (l.blocks.refused ≡ None → l.initial.blocks.refused ≡ None)
    × (l.blocks.refused ≡ None
    → block_trees l.blocks.blocks.items ++ blocks_among l.parent (statements_view (drop l.statement-index l.statements))
    ≡ block_trees l.initial.blocks.blocks.items ++ blocks_among l.parent (statements_view l.statements))
