use Rattle.std.proofs.Common.{◌≡◌, drop}
use Rattle.std.specs.List.{list_all}
use Rattle.pli_gen_emit.specs.views.BlockView.{block_trees}
use Rattle.pli_gen.specs.answers.Pieces.{block_fits}
use Rattle.pli_gen.proofs.limits.blocks_fit.Given as goal

abbrev pub invariant-loop-block : goal.invariant-loop-block
invariant-loop-block l = list_all block_fits (block_trees (drop l.block-index l.blocks)) ≡ list_all block_fits (block_trees l.blocks)
