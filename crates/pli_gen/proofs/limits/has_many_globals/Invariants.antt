use Rattle.std.proofs.Common.{◌≡◌, ◌+◌, ◌≤◌, drop, length}
use Rattle.pli_type_tree.specs.views.GlobalView.{globals_view}
use Rattle.pli_gen.proofs.limits.has_many_globals.Given as goal

-- how many there may still be, and those of the groups that are left
abbrev pub invariant-loop-group : goal.invariant-loop-group
invariant-loop-group l = record {
  all : 65535 + length (globals_view (drop l.group-index l.groups)) ≡ l.left + length (globals_view l.groups);
  few : l.left ≤ 65535;
}
