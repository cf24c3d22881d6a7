use Rattle.std.proofs.Common.{◌+◌}
use Rattle.pli_value.specs.Packing.{packed_bit}
use Rattle.pli_value.proofs.ByteLoopLemmas.{AreFilled}
use Rattle.pli_value.proofs.bit.cut.Given as goal

abbrev pub invariant-loop-number : goal.invariant-loop-number
invariant-loop-number l = AreFilled (λ k. packed_bit l.bytes (l.before + k)) l.count l.number l.packed.items
