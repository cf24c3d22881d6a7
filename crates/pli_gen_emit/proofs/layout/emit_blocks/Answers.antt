use Rattle.std.proofs.Common.{◌≡◌, ◌++◌, ◌∷◌, [], false, get_or, length, drop, arith, ap, ◌∙◌, sym}
use Rattle.pli_gen_emit.specs.TreeTranslation.{block_code, blocks_code}
use Rattle.pli_gen_emit.specs.answers.Emitting.{Emission, emission, extended}
use Rattle.pli_gen_emit.specs.answers.Pieces.{entries_of}
use Rattle.pli_gen_emit.specs.views.BlockView.{block_tree, block_trees}
use Rattle.pli_gen_emit.proofs.JumpLemmas.{more_blocks, more_entries}
use Rattle.pli_gen_emit.proofs.layout.emit_blocks.Goals as goal

pub loop-block-preserved : goal.loop-block-preserved
loop-block-preserved c =
    let blocks = c.args.blocks.now in
    let i = c.loop-block.block-index in
    let block = c.block-item.result in
    let now = emission c.loop-block.code in
    let mid = emission c.note_entry.new.code in
    let new = emission c.emit_block.new.code in
    let before = c.loop-block.entries.items in
    let same = c.note_entry.ensures.1 in
    let added : c.emit_block.new.code.tables.lacks_memory ≡ false → new ≡ extended mid (block_code (block_tree (get_or blocks i block)) (length mid.code)) =
    λ h. c.emit_block.ensures.1 h ∙ ap (λ b. extended mid (block_code (block_tree b) (length mid.code))) c.block-item.is in
    let rest = block_trees (drop i blocks) in
    record {
      code = (
        λ h. c.loop-block.invariant.code.0 (c.note_entry.ensures.0 (c.emit_block.ensures.0 h)),
        λ h. more_blocks blocks i block mid new (omega arith) (added h) _
            (ap (λ (e : Emission). extended e (blocks_code rest (length e.code))) same ∙ c.loop-block.invariant.code.1 (c.note_entry.ensures.0 (c.emit_block.ensures.0 h))),
      );
      entries = λ h. more_entries blocks i block mid new (omega arith) (added h) before c.note_entry.new.entries.items _
          (c.note_entry.ensures.2 (c.emit_block.ensures.0 h) ∙ ap (λ (e : Emission). before ++ length e.code ∷ []) (sym same))
          (ap (λ (e : Emission). before ++ entries_of rest (length e.code)) same ∙ c.loop-block.invariant.entries (c.note_entry.ensures.0 (c.emit_block.ensures.0 h)));
    }
