use Rattle.std.proofs.Common.{Ok, option_map, ap, sym, ◌∙◌, subst}
use Rattle.std.proofs.lemmas.Result.{err_from_is_err_and}
use Rattle.pli_base.specs.views.StatementView.{range_view}
use Rattle.pli_base.specs.views.SyntaxView as syntax
use Rattle.pli_type_rules.specs.StatementTyping.{controls, has_locator}
use Rattle.pli_type_rules.specs.Typing.{own_token}
use Rattle.pli_type.specs.views.ValueView.{value_view}
use Rattle.pli_base.specs.answers.FailureAnswers.{Gives}
use Rattle.pli_type_expression.proofs.BindLemmas.{fails_as}
use Rattle.pli_type_operands.specs.views.TypingView.{denoted_view, referent_view}
use Rattle.pli_type_names.specs.UnitNaming.{naming_in}
use Rattle.pli_type_tree.specs.views.TypedView as typed
use Rattle.pli_type_iteration.proofs.IterationLemmas.{iteration_fails, iteration_goes_on}
use Rattle.pli_type_iteration.proofs.iteration.iteration.Goals as goal

pub returns-in_err-variable-2 : goal.returns-in_err-variable-2
returns-in_err-variable-2 c =
    let x = c.args.text in
    let p = err_from_is_err_and c.from_residual-in_err-variable-2.result c.from_residual-in_err-variable-2.ensures.1 in
    rw (p.1, p.2)
    (iteration_fails (naming_in c.args.naming.now) c.args.temporary x.variable.now x.equals (syntax.expression_view x.first.now)
    (option_map range_view x.range.now) (option_map syntax.expression_view x.condition.now) (value_view c.in_ok-first.first)
    (typed.range_view c.deref.result.now) (denoted_view c.in_ok-variable.variable) c.in_err-variable-2.field-0.0
    c.in_ok-first.ensures
    (c.in_ok-range.ensures ∙ ap (λ r. Ok (typed.range_view r)) (sym c.in_ok-kept.ensures.ok ∙ sym c.deref.ensures))
    c.in_ok-variable.ensures
    (fails_as c.in_err-variable-2.field-0.0 _ _
    (ap (λ b. controls (own_token (syntax.reference_view x.variable.now)) b (typed.range_view c.deref.result.now) (denoted_view c.in_ok-variable.variable)) (sym c.has_locator-is_located.ensures)
    ∙ ap (λ at. controls at c.has_locator-is_located.result (typed.range_view c.deref.result.now) (denoted_view c.in_ok-variable.variable)) (sym c.own_token-at.ensures))
    c.in_err-variable-2.ensures))

pub returns : goal.returns
returns c =
    let x = c.args.text in
    let d = denoted_view c.in_ok-variable.variable in
    subst (λ t. Gives typed.iteration_view c.iterated.result t)
    (sym (iteration_goes_on (naming_in c.args.naming.now) c.args.temporary x.variable.now x.equals (syntax.expression_view x.first.now)
    (option_map range_view x.range.now) (option_map syntax.expression_view x.condition.now) (value_view c.in_ok-start.start.value)
    (typed.range_view c.in_ok-kept.kept.value) d (referent_view c.in_ok-variable-2.variable.value)
    (c.in_ok-first.ensures ∙ ap (λ v. Ok (value_view v)) (sym c.in_ok-start.ensures.ok))
    (c.in_ok-range.ensures ∙ ap (λ r. Ok (typed.range_view r)) (sym c.in_ok-kept.ensures.ok))
    c.in_ok-variable.ensures
    (ap (λ k. controls (own_token (syntax.reference_view x.variable.now)) (has_locator (syntax.reference_view x.variable.now)) (typed.range_view k) d) (sym c.deref.ensures)
    ∙ ap (λ b. controls (own_token (syntax.reference_view x.variable.now)) b (typed.range_view c.deref.result.now) d) (sym c.has_locator-is_located.ensures)
    ∙ ap (λ at. controls at c.has_locator-is_located.result (typed.range_view c.deref.result.now) d) (sym c.own_token-at.ensures)
    ∙ c.in_ok-variable-2.ensures)))
    c.iterated.ensures
