use Rattle.std.proofs.Common.{◌≡◌, drop}
use Rattle.std.specs.List.{list_any}
use Rattle.pli_gen.specs.answers.Pieces.{takes_many_slots}
use Rattle.pli_gen_emit.specs.views.BlockView.{block_trees}
use Rattle.pli_gen.proofs.limits.has_wide_block.Given as goal

abbrev pub invariant-loop-block : goal.invariant-loop-block
invariant-loop-block l = list_any takes_many_slots (block_trees (drop l.block-index l.blocks)) ≡ list_any takes_many_slots (block_trees l.blocks)
