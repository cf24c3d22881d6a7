use Rattle.std.proofs.Common.{◌≡◌, ◌+◌, replicate}
use Rattle.pli_region.proofs.region.Region.new.Given as goal

abbrev pub invariant-loop-at : goal.invariant-loop-at
invariant-loop-at l = (l.memory.items ≡ replicate l.at 0) × (l.at + l.memory.room ≡ l.len) × (l.lease.ptr ≡ l.memory.ptr)
