use Rattle.std.proofs.Common.{◌≡◌, ◌++◌, Some, None, option_map, ap, sym, ◌∙◌, rules}
use Rattle.std.specs.Prelude.{slice_get}
use Rattle.std.proofs.lemmas.List.{append-nil}
use Rattle.std.proofs.lemmas.Result.{IfOk-equal, IfOk-weaker}
use Rattle.pli_type_templates.specs.Plans.{leaf_in, levels_in}
use Rattle.pli_type_templates.specs.views.PlanView.{leaf_view, plan_view}
use Rattle.pli_type_templates.proofs.PlansMade.{structure_view, leaf_through, levels_through, leaf_nowhere, levels_nowhere}
use Rattle.pli_type_templates.proofs.plan.+find_leaf.Goals as goal

pub returns-in-Some-member_at-clause-leaf : goal.returns-in-Some-member_at-clause-leaf
returns-in-Some-member_at-clause-leaf t c =
    let members = c.in-Structure.members in
    let member = c.in-Some-member_at.member.now in
    let plan = plan_view c.args.plan.now in
    let is = structure_view c.args.plan.now members c.in-Structure.is in
    let found : slice_get members.items c.in-Some.number.now ≡ Some member = search rules in
    let through = leaf_through plan members.items c.args.path.now c.in-Some.number.now c.in-Some.inner.now member is c.in-Some.ensures.cases.0 found in
    IfOk-weaker c.find_leaf-in-Some-member_at.result
    (λ leaf. option_map leaf_view leaf ≡ leaf_in (plan_view member) c.in-Some.inner.now)
    (λ leaf. option_map leaf_view leaf ≡ leaf_in plan c.args.path.now)
    (λ leaf e. e ∙ through) c.find_leaf-in-Some-member_at.ensures.leaf

pub returns-in-Some-member_at-clause-levels : goal.returns-in-Some-member_at-clause-levels
returns-in-Some-member_at-clause-levels t c =
    let members = c.in-Structure.members in
    let member = c.in-Some-member_at.member.now in
    let plan = plan_view c.args.plan.now in
    let old = c.args.levels.now.items in
    let is = structure_view c.args.plan.now members c.in-Structure.is in
    let found : slice_get members.items c.in-Some.number.now ≡ Some member = search rules in
    let through = levels_through plan members.items c.args.path.now c.in-Some.number.now c.in-Some.inner.now member is c.in-Some.ensures.cases.0 found in
    IfOk-equal c.find_leaf-in-Some-member_at.result c.find_leaf-in-Some-member_at.new.levels.items
    (old ++ levels_in (plan_view member) c.in-Some.inner.now) (old ++ levels_in plan c.args.path.now)
    c.find_leaf-in-Some-member_at.ensures.levels (ap (λ ls. old ++ ls) through)

pub returns-in-None-clause-leaf : goal.returns-in-None-clause-leaf
returns-in-None-clause-leaf t c =
    let members = c.in-Structure.members in
    let is = structure_view c.args.plan.now members c.in-Structure.is in
    let found : slice_get members.items c.in-Some.number.now ≡ None = search rules in
    leaf_nowhere (plan_view c.args.plan.now) members.items c.args.path.now c.in-Some.number.now c.in-Some.inner.now is c.in-Some.ensures.cases.0 found

pub returns-in-None-clause-levels : goal.returns-in-None-clause-levels
returns-in-None-clause-levels t c =
    let members = c.in-Structure.members in
    let old = c.args.levels.now.items in
    let is = structure_view c.args.plan.now members c.in-Structure.is in
    let found : slice_get members.items c.in-Some.number.now ≡ None = search rules in
    sym (append-nil old)
    ∙ ap (λ ls. old ++ ls)
    (levels_nowhere (plan_view c.args.plan.now) members.items c.args.path.now c.in-Some.number.now c.in-Some.inner.now is c.in-Some.ensures.cases.0 found)
