use Rattle.std.proofs.Common.{◌≡◌, ◌++◌, map, drop, None}
use Rattle.std.specs.List.{flat_map}
use Rattle.pli_type_tree.specs.views.TypedView.{procedure_view}
use Rattle.pli_gen_emit.specs.TreeTranslation.{blocks_of_procedure}
use Rattle.pli_gen_emit.specs.views.BlockView.{block_trees}
use Rattle.pli_gen_emit.proofs.block.collect_all.Given as goal

abbrev pub invariant-loop-procedure : goal.invariant-loop-procedure
invariant-loop-procedure l =
    l.collected.refused ≡ None
    → block_trees l.collected.blocks.items ++ flat_map blocks_of_procedure (map procedure_view (drop l.procedure-index l.procedures))
    ≡ flat_map blocks_of_procedure (map procedure_view l.procedures)
