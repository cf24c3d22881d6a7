use Rattle.std.proofs.Common.{◌∙◌, ap, arith}
use Rattle.pli_gen_emit.specs.views.BlockView.{block_tree}
use Rattle.pli_gen.specs.answers.Pieces.{block_fits}
use Rattle.pli_gen.proofs.FieldLemmas.{one_of_all}
use Rattle.pli_gen.proofs.unit.encode_blocks.Goals as goal

pub encode_block-requires-clause-narrow : goal.encode_block-requires-clause-narrow
encode_block-requires-clause-narrow c =
    ap (λ b. block_fits (block_tree b)) c.index-blocks-i.is
    ∙ one_of_all block_fits block_tree c.args.blocks.now c.loop-i.i c.index-blocks-i.result (omega arith) c.requires.narrow
