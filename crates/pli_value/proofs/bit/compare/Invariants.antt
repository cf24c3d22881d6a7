use Rattle.std.proofs.Common.{◌≡◌, false}
use Rattle.std.specs.Ordering.{bool_cmp}
use Rattle.pli_value.specs.Strings.{order_of}
use Rattle.pli_value.proofs.OrderLemmas.{order_from}
use Rattle.pli_value.proofs.bit.compare.Given as goal

abbrev pub invariant-loop-place : goal.invariant-loop-place
invariant-loop-place l = order_from false bool_cmp l.left l.right l.place ≡ order_of false bool_cmp l.left l.right
