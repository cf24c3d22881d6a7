use Rattle.std.proofs.Common.{◌≡◌, ◌≤◌, ◌+◌, ◌-◌, ◌*◌, drop, map, true}
use Rattle.pli_map.specs.Sizes.{end_after}
use Rattle.pli_map.specs.views.DescriptionView.{description_view, members_view}
use Rattle.pli_map.proofs.ScalarPlaces.{nodes, nodes_among}
use Rattle.pli_type_rules.specs.NamedUnits.{all_plain}
use Rattle.pli_type_templates.specs.Plans.{plans_from}
use Rattle.pli_type_templates.specs.views.PlanView.{plan_view}
use Rattle.pli_type_templates.proofs.PlansMade.{before}
use Rattle.pli_type_templates.proofs.plan.+plan_from.Given as goal

abbrev pub decreases-plan_from : goal.decreases-plan_from
decreases-plan_from l = 2 * nodes (description_view l.description.now)

abbrev pub decreases-array_from : goal.decreases-array_from
decreases-array_from l = 2 * nodes (description_view l.element.now) + 1

abbrev pub decreases-members_from : goal.decreases-members_from
decreases-members_from l = 2 * nodes_among (members_view l.members.now) + 1

-- the plans so far in front of those of the members that are left are those of all
abbrev pub invariant-members_from-loop-member : goal.invariant-members_from-loop-member
invariant-members_from-loop-member l = record {
  plans : before (map plan_view l.plans.items) (plans_from l.fn.first (l.end - l.fn.first) (members_view (drop l.member-index l.members)))
      ≡ plans_from l.fn.first 0 (members_view l.members);
  end : end_after (l.end - l.fn.first) (members_view (drop l.member-index l.members)) ≡ end_after 0 (members_view l.members);
  from : l.fn.first ≤ l.end;
  plain : all_plain 63 (members_view (drop l.member-index l.members)) ≡ true;
}
