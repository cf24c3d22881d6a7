use Rattle.std.proofs.Common.{◌≡◌, ◌+◌, ◌≤◌, drop, length}
use Rattle.pli_type_tree.specs.views.TemplateView.{groups_view}
use Rattle.pli_gen.proofs.limits.has_many_variables.Given as goal

-- how many slots there may still be, and those of the groups that are left
abbrev pub invariant-loop-group : goal.invariant-loop-group
invariant-loop-group l = record {
  all : 65535 + length (groups_view (drop l.group-index l.groups)) ≡ l.left + l.slots + length (groups_view l.groups);
  few : l.left + l.slots ≤ 65535;
}
