use Rattle.std.proofs.Common.{false, get_or, not}
use Rattle.pli_value.proofs.ByteLoopLemmas.{AreFilled}
use Rattle.pli_value.proofs.bit.not.Given as goal

abbrev pub invariant-loop-number : goal.invariant-loop-number
invariant-loop-number l = AreFilled (λ k. not (get_or l.bits k false)) l.count l.number l.new.items
