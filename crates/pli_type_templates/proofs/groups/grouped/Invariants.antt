use Rattle.std.proofs.Common.{◌≡◌, ◌≤◌, ◌-◌, ◌++◌, drop, length, map}
use Rattle.pli_type_templates.specs.views.ItemView.{made_template}
use Rattle.pli_type_tree.specs.views.TemplateView.{groups_view}
use Rattle.pli_type_templates.proofs.groups.grouped.Given as goal

-- the groups so far, with the variables that are left, are those of all
abbrev pub invariant-loop-at : goal.invariant-loop-at
invariant-loop-at l = record {
  within : l.at ≤ length l.made;
  templates : groups_view l.groups.items ++ map made_template (drop l.at l.made) ≡ map made_template l.made;
}

abbrev pub decreases-loop-at : goal.decreases-loop-at
decreases-loop-at l = length l.made - l.at
