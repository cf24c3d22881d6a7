use Rattle.std.proofs.Common.{◌≡◌}
use Rattle.pli_type_rules.specs.TextOrder.{numbers_from}
use Rattle.pli_type_names.proofs.order.numbers_below.Given as goal

-- those so far
abbrev pub invariant-loop-number : goal.invariant-loop-number
invariant-loop-number l = l.numbers.items ≡ numbers_from 0 l.number
