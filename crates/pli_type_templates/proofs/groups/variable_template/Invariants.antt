use Rattle.std.proofs.Common.{◌≡◌, ◌++◌, ◌∷◌, [], drop, map}
use Rattle.std.specs.List.{flat_map}
use Rattle.pli_map.specs.views.DescriptionView.{description_view}
use Rattle.pli_type_tree.specs.views.TemplateView.{initial_view}
use Rattle.pli_type_templates.specs.Items.{item_scalars}
use Rattle.pli_type_templates.specs.Plans.{plan_from}
use Rattle.pli_type_templates.specs.views.ItemView.{items_view}
use Rattle.pli_type_templates.specs.views.PlanView.{plan_view}
use Rattle.pli_type_templates.proofs.groups.variable_template.Given as goal

-- the plan is that of the variable; the initial values so far and those of the members that are left are those of all
abbrev pub invariant-loop-member : goal.invariant-loop-member
invariant-loop-member l = record {
  planned : plan_view l.plan ≡ plan_from 0 (description_view l.made.description.now);
  items :
      map initial_view l.scalars.items ++ flat_map (item_scalars (plan_view l.plan)) (items_view (drop l.member-index l.members))
      ≡ flat_map (item_scalars (plan_view l.plan)) (record { path = []; values = l.made.values.now } ∷ items_view l.members);
}
