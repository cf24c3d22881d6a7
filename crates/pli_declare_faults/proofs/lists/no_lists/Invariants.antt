use Rattle.std.proofs.Common.{◌≡◌, [], map, replicate}
use Rattle.pli_declare_faults.proofs.lists.no_lists.Given as goal

abbrev pub invariant-loop-list : goal.invariant-loop-list
invariant-loop-list g l = map (λ v. v.items) l.lists.items ≡ replicate l._list []
