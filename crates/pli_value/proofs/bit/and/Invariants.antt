use Rattle.std.proofs.Common.{false, get_or, ◌&&◌}
use Rattle.pli_value.proofs.ByteLoopLemmas.{AreFilled}
use Rattle.pli_value.proofs.bit.and.Given as goal

abbrev pub invariant-loop-number : goal.invariant-loop-number
invariant-loop-number l = AreFilled (λ k. get_or l.left k false && get_or l.right k false) l.count l.number l.both.items
