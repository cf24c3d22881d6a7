use Rattle.std.proofs.Common.{◌+◌, false, get_or, length, sym, ◌∙◌, arith}
use Rattle.pli_value.specs.Packing.{packed_bit}
use Rattle.pli_value.proofs.BitLoopLemmas.{same_tabulated, fitted_is_tabulated}
use Rattle.pli_value.proofs.PackedLaws.{bit_shown}
use Rattle.pli_value.proofs.bit.fit.Goals as goal

pub returns : goal.returns
returns c =
    c.in_ok-new.ensures
    ∙ same_tabulated (λ k. packed_bit c.bytes.result.now (0 + k)) (λ k. get_or c.args.bits.now k false) c.args.size
    (λ k below. bit_shown (length c.args.bits.now) c.bytes.result.now c.args.bits.now (0 + k) k c.bytes.ensures.packed c.bytes.ensures.value (omega arith))
    ∙ sym (fitted_is_tabulated false c.args.size c.args.bits.now)
