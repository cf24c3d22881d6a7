use Rattle.std.proofs.Common.{◌≡◌, Some, None, map, option_map, sym, ap, ◌∙◌, subst}
use Rattle.pli_base.specs.answers.FailureAnswers.{Gives}
use Rattle.pli_map.specs.ParameterTypes.{stated}
use Rattle.pli_map.specs.views.DescriptionView.{description_view}
use Rattle.pli_type_rules.specs.References.{whole_meant}
use Rattle.pli_type_tree.specs.views.TypedView.{expression_view}
use Rattle.pli_type_expression.specs.views.SegmentView.{locator_view}
use Rattle.pli_type_operands.specs.views.TypingView.{referent_view, role_view}
use Rattle.pli_type_expression.proofs.variable.variable_meant.Goals as goal

pub returns-in-Some : goal.returns-in-Some
returns-in-Some c = λ named as_named.
    let d = c.in-Some.whole in
    let same : Some (description_view d.now) ≡ stated named.whole =
    ap (option_map (λ d. description_view d.now)) (sym c.in-Some.is) ∙ c.stated.ensures ∙ ap stated as_named.1 in
    subst (λ o. Gives referent_view c.part_meant.result (whole_meant (role_view c.args.role) (locator_view c.args.locator) c.args.at named (map expression_view c.args.subscripts.items) o)) same
    (c.part_meant.ensures named as_named)

pub returns-in-None : goal.returns-in-None
returns-in-None c = λ named as_named.
    let same : None ≡ stated named.whole =
    ap (option_map (λ d. description_view d.now)) (sym c.in-None.is) ∙ c.stated.ensures ∙ ap stated as_named.1 in
    subst (λ o. Gives referent_view c.open_meant.result (whole_meant (role_view c.args.role) (locator_view c.args.locator) c.args.at named (map expression_view c.args.subscripts.items) o)) same
    (c.open_meant.ensures named as_named)
