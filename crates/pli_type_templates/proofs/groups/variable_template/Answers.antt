use Rattle.std.proofs.Common.{◌≡◌, ◌++◌, ◌∷◌, [], List, map, ap, sym, subst, ◌∙◌}
use Rattle.std.specs.List.{flat_map}
use Rattle.std.proofs.lemmas.List.{append-nil, drop_all}
use Rattle.pli_map.specs.Description.{Description}
use Rattle.pli_map.specs.views.DescriptionView.{description_view}
use Rattle.pli_type_rules.specs.InitialScalars.{InitialItem}
use Rattle.pli_type_tree.specs.Templates.{InitialScalar, Template}
use Rattle.pli_type_tree.specs.views.TemplateView.{initial_view}
use Rattle.pli_type_templates.specs.Items.{item_scalars}
use Rattle.pli_type_templates.specs.Plans.{IsStoredPlan, Plan, plan_from}
use Rattle.pli_type_templates.specs.views.ItemView.{items_view}
use Rattle.pli_type_templates.specs.views.PlanView.{plan_view}
use Rattle.pli_type_templates.proofs.ScalarsPlanned.{items_planned}
use Rattle.pli_type_templates.proofs.StoredPlans.{stored_plan}
use Rattle.pli_type_templates.proofs.groups.variable_template.Goals as goal

pub put_item-requires : goal.put_item-requires
put_item-requires c = subst IsStoredPlan (sym c.in_ok-plan.ensures) (stored_plan (description_view c.args.made.now.description.now) c.args.made.now.stored)

pub put_item-requires-in-loop-member : goal.put_item-requires-in-loop-member
put_item-requires-in-loop-member c = subst IsStoredPlan (sym c.loop-member.invariant.planned) (stored_plan (description_view c.args.made.now.description.now) c.args.made.now.stored)

pub returns : goal.returns
returns c =
    let l = c.loop-member in
    let d = description_view c.args.made.now.description.now in
    let own : InitialItem = record { path = []; values = c.args.made.now.values.now } in
    let items = own ∷ items_view c.args.made.now.members.now in
    let plan = plan_view l.plan-1 in
    let planned : plan ≡ plan_from 0 d = l.invariant.planned in
    let so_far = map initial_view l.scalars.items in
    let none = drop_all l.member-index c.args.made.now.members.now c.loop-member-test.false in
    let all = sym (append-nil so_far)
    ∙ ap (λ is. so_far ++ flat_map (item_scalars plan) (items_view is)) (sym none)
    ∙ l.invariant.items
    ∙ ap (λ (p : Plan). flat_map (item_scalars p) items) planned
    ∙ items_planned d items in
    let made : Description → List InitialScalar → Template = λ x is. record { description = x; initial = is } in
    ap (λ x. made x so_far) c.in_ok-description.ensures ∙ ap (made d) all
