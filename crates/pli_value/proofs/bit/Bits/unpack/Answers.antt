use Rattle.std.proofs.Common.{◌≡◌, ◌+◌, ap, ◌∙◌, arith}
use Rattle.pli_value.specs.Packing.{packed_bit}
use Rattle.pli_value.proofs.BitLoopLemmas.{same_tabulated}
use Rattle.pli_value.proofs.bit.Bits.unpack.Goals as goal

pub returns : goal.returns
returns c =
    c.in_ok-bits.ensures
    ∙ same_tabulated (λ k. packed_bit c.args.bytes.now (0 + k)) (packed_bit c.args.bytes.now) c.args.count
    (λ k below. let same : 0 + k ≡ k = omega arith in ap (packed_bit c.args.bytes.now) same)
