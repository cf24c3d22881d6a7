use Rattle.std.proofs.Common.{◌≡◌, ℕ, length, None}
use Rattle.std.specs.Prelude.{get_or}
use Rattle.pli_machine_loading.proofs.linking.make_room.Given as goal

-- so many places, with nothing noted at those that are new
abbrev pub invariant-loop-count : goal.invariant-loop-count
invariant-loop-count l = record {
  count : length l.externals.items ≡ l._count;
  same : (other : ℕ) → get_or l.externals.items other None ≡ get_or l.initial.externals.items other None;
}
