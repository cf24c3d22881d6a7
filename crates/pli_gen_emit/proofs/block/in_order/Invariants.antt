use Rattle.std.proofs.Common.{◌≡◌, map, take, filter, length}
use Rattle.std.specs.List.{range_with_len}
use Rattle.pli_gen_emit.specs.TreeTranslation.{has_number}
use Rattle.pli_gen_emit.specs.views.BlockView.{block_trees}
use Rattle.pli_gen_emit.proofs.block.in_order.Given as goal

-- each list has the blocks of its number so far
abbrev pub invariant-loop-block : goal.invariant-loop-block
invariant-loop-block l =
    map (λ list. block_trees list.items) l.lists.items
    ≡ map (λ n. filter (has_number n) (take l.block-index (block_trees l.blocks))) (range_with_len 0 (length (block_trees l.blocks)))
