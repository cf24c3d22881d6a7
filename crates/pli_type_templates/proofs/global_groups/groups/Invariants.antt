use Rattle.std.proofs.Common.{◌≡◌, ◌≤◌, ◌-◌, ◌++◌, drop, length, map}
use Rattle.pli_type_templates.specs.views.PlacedView.{global_view}
use Rattle.pli_type_tree.specs.views.GlobalView.{globals_view}
use Rattle.pli_type_templates.proofs.global_groups.groups.Given as goal

-- the groups so far, with the globals that are left, are those of all
abbrev pub invariant-loop-at : goal.invariant-loop-at
invariant-loop-at l = record {
  within : l.at ≤ length l.globals;
  globals : globals_view l.groups.items ++ map global_view (drop l.at l.globals) ≡ map global_view l.globals;
}

abbrev pub decreases-loop-at : goal.decreases-loop-at
decreases-loop-at l = length l.globals - l.at
