use Rattle.std.proofs.Common.{◌≡◌, ◌++◌, map, drop}
use Rattle.std.specs.List.{flat_map}
use Rattle.pli_gen_emit.specs.views.BlockView.{block_trees}
use Rattle.pli_gen_emit.proofs.block.flattened.Given as goal

abbrev pub invariant-loop-list : goal.invariant-loop-list
invariant-loop-list l =
    block_trees l.blocks.items ++ flat_map (λ trees. trees) (map (λ list. block_trees list.items) (drop l.list-index l.lists))
    ≡ flat_map (λ trees. trees) (map (λ list. block_trees list.items) l.lists)
