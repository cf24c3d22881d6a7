use Rattle.std.proofs.Common.{◌≡◌, ◌++◌, [], Some, append-nil, length, option_map, map, take, ap, sym, ◌∙◌}
use Rattle.std.proofs.lemmas.Bool.{eqb-true}
use Rattle.std.proofs.lemmas.List.{nil_from_length}
use Rattle.pli_type_rules.specs.InitialScalars.{each_with, values_written}
use Rattle.pli_type_tree.specs.views.TemplateView.{initial_view}
use Rattle.pli_type_templates.specs.Plans.{leaf_in, levels_in, scalars_planned, spread}
use Rattle.pli_type_templates.specs.views.PlanView.{leaf_view, plan_view}
use Rattle.pli_type_templates.proofs.NoValues.{each_none}
use Rattle.pli_type_templates.proofs.ScalarsPlanned.{item_made}
use Rattle.pli_type_templates.proofs.items.put_item.Goals as goal

pub returns-then-is_empty : goal.returns-then-is_empty
returns-then-is_empty c =
    let values = c.args.item.values.now in
    let scalars = scalars_planned (plan_view c.args.plan.now) c.args.item.path.now in
    let put = map initial_view c.args.scalars.now.items in
    let none : values ≡ [] = nil_from_length values (eqb-true (length values) 0 (sym c.is_empty.ensures ∙ c.if-is_empty.true)) in
    sym (append-nil put)
    ∙ ap (λ is. put ++ is) (sym (ap (λ vs. each_with scalars (values_written vs)) none ∙ each_none scalars))

pub returns : goal.returns
returns c =
    let plan = plan_view c.args.plan.now in
    let path = c.args.item.path.now in
    let found = leaf_view c.in-Some.found in
    let levels = c.deref.result.now in
    let wanted = c.elements_written-wanted.result in
    let leaf : leaf_in plan path ≡ Some found = sym c.in_ok-found.ensures.leaf ∙ ap (option_map leaf_view) c.in-Some.is in
    let passed : levels_in plan path ≡ levels =
    sym (c.deref.ensures.value ∙ c.in_ok-found.ensures.levels ∙ ap (λ ls. ls ++ levels_in plan path) c.new-levels.ensures.items) in
    let made : c.deref-2.result.now ≡ take wanted (spread levels found.first) =
    c.deref-2.ensures.value ∙ c.in_ok-put_offsets.ensures ∙ ap (λ ns. take wanted (ns ++ spread levels found.first)) c.new-offsets.ensures.items in
    c.in_ok-put_values.ensures
    ∙ ap (λ is. map initial_view c.args.scalars.now.items ++ is)
    (item_made plan path c.args.item.values.now found levels c.deref-2.result.now wanted leaf passed c.elements_written-wanted.ensures made)
