use Rattle.std.proofs.Common.{◌≡◌, ◌++◌, drop, length, false}
use Rattle.pli_gen_emit.specs.TreeTranslation.{blocks_code}
use Rattle.pli_gen_emit.specs.answers.Pieces.{entries_of}
use Rattle.pli_gen_emit.specs.views.BlockView.{block_trees}
use Rattle.pli_gen_emit.proofs.EmitLemmas.{IsAmid}
use Rattle.pli_gen_emit.proofs.layout.emit_blocks.Given as goal

-- what was put so far and what the blocks that are left put
abbrev pub invariant-loop-block : goal.invariant-loop-block
invariant-loop-block l = record {
  code : IsAmid l.initial.code l.code (blocks_code (block_trees (drop l.block-index l.blocks)) (length l.code.code.items))
      (blocks_code (block_trees l.blocks) (length l.initial.code.code.items));
  entries : l.code.tables.lacks_memory ≡ false → l.entries.items ++ entries_of (block_trees (drop l.block-index l.blocks)) (length l.code.code.items)
      ≡ l.initial.entries.items ++ entries_of (block_trees l.blocks) (length l.initial.code.code.items);
}
