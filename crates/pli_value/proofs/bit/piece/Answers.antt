use Rattle.std.proofs.Common.{◌+◌, false, get_or, length, refl, sym, ◌∙◌}
use Rattle.pli_value.specs.Packing.{packed_bit}
use Rattle.pli_value.proofs.BitLoopLemmas.{same_tabulated, piece_tabulated}
use Rattle.pli_value.proofs.PackedLaws.{bit_shown}
use Rattle.pli_value.proofs.bit.piece.Goals as goal

pub returns : goal.returns
returns c =
    c.in_ok-part.ensures
    ∙ same_tabulated (λ k. packed_bit c.bytes.result.now (c.args.before + k)) (λ k. get_or c.args.bits.now (c.args.before + k) false) c.args.count
    (λ k below. bit_shown (length c.args.bits.now) c.bytes.result.now c.args.bits.now (c.args.before + k) (c.args.before + k) c.bytes.ensures.packed c.bytes.ensures.value refl)
    ∙ sym (piece_tabulated c.args.bits.now c.args.before c.args.count c.requires.within)
