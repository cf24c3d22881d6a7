use Rattle.std.proofs.Common.{◌≡◌, map}
use Rattle.pli_declare_outline.specs.views.OutlineView.{outline_view}
use Rattle.pli_declare.specs.Tables.{numbers_from}
use Rattle.pli_declare.specs.Resolved.{block_at}
use Rattle.pli_declare.specs.views.BlockView.{block_view}
use Rattle.pli_declare_faults.proofs.resolving.blocks.Given as goal

-- the blocks so far
abbrev pub invariant-loop-block : goal.invariant-loop-block
invariant-loop-block l = map block_view l.blocks.items ≡ map (block_at (outline_view l.outline)) (numbers_from 0 l.block)
