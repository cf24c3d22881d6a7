use Rattle.std.proofs.Common.{◌≡◌, ◌+◌, ◌-◌, ◌≤◌, None, replicate}
use Rattle.std.specs.Prelude.{vec_len, vec_capacity}
use Rattle.pli_machine_activations.proofs.entering.unset_all.Given as goal

-- so many are there, and there is room for the others
abbrev pub invariant-loop-unset : goal.invariant-loop-unset
invariant-loop-unset l = record {
  items : l.temporaries.items ≡ replicate l._unset None;
  room : vec_len l.temporaries + (l.count - l._unset) ≤ vec_capacity l.temporaries;
}
