use Rattle.std.proofs.Common.{◌≡◌}
use Rattle.std.specs.Ordering.{nat_cmp}
use Rattle.pli_value.specs.Strings.{order_of}
use Rattle.pli_value.proofs.OrderLemmas.{order_from}
use Rattle.pli_value.proofs.character.compare_all.Given as goal

abbrev pub invariant-loop-place : goal.invariant-loop-place
invariant-loop-place l = order_from 32 nat_cmp l.left l.right l.place ≡ order_of 32 nat_cmp l.left l.right
