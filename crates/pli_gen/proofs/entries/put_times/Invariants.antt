use Rattle.std.proofs.Common.{◌≡◌, ◌++◌, replicate}
use Rattle.pli_gen.proofs.entries.put_times.Given as goal

abbrev pub invariant-loop : goal.invariant-loop
invariant-loop l = l.list.items ≡ l.initial.list.items ++ replicate l.counter l.number
