use Rattle.std.proofs.Common.{◌≡◌, [], map, replicate}
use Rattle.pli_gen_emit.specs.views.BlockView.{block_trees}
use Rattle.pli_gen_emit.proofs.block.no_blocks.Given as goal

abbrev pub invariant-loop : goal.invariant-loop
invariant-loop l = map (λ list. block_trees list.items) l.lists.items ≡ replicate l.counter []
