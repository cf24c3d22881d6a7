use Rattle.std.proofs.Common.{false, get_or, ◌+◌, ◌++◌}
use Rattle.pli_value.proofs.ByteLoopLemmas.{AreFilled}
use Rattle.pli_value.proofs.bit.join.Given as goal

abbrev pub invariant-loop-number : goal.invariant-loop-number
invariant-loop-number l = AreFilled (λ k. get_or (l.left ++ l.right) k false) (l.before + l.more) l.number l.both.items
