use Rattle.std.proofs.Common.{None, Some, map, option_map, ap, sym, ◌∙◌, subst}
use Rattle.std.proofs.lemmas.Result.{err_from_is_err_and}
use Rattle.pli_base.specs.views.SyntaxView as syntax
use Rattle.pli_map.specs.views.DescriptionView.{description_view}
use Rattle.pli_type_rules.specs.StatementTyping as spec
use Rattle.pli_base.specs.answers.FailureAnswers.{Fails}
use Rattle.pli_type_operands.specs.views.TypingView.{argument_view}
use Rattle.pli_type_names.specs.SymbolMeaning.{IsMeantAs}
use Rattle.pli_type_names.specs.UnitNaming.{naming_in}
use Rattle.pli_type_tree.specs.views.TypedView.{arguments_view, callee_view}
use Rattle.pli_type_simple.proofs.CallLemmas.{meant_procedure, call_fails, call_done}
use Rattle.pli_type_simple.proofs.calls.call.Goals as goal

pub returns-in_err-arguments-2 : goal.returns-in_err-arguments-2
returns-in_err-arguments-2 c =
    let names = c.args.naming.now in
    let m = meant_procedure c.in-Procedure.procedure ((naming_in names).meaning c.args.name.at) (subst (λ a. IsMeantAs a ((naming_in names).meaning c.args.name.at)) c.in-Procedure.is c.meaning.ensures) in
    let p = err_from_is_err_and c.from_residual-in_err-arguments-2.result c.from_residual-in_err-arguments-2.ensures.1 in
    rw (p.1, p.2)
    (call_fails names c.args.name (syntax.arguments_view c.args.list.now) (map argument_view c.in_ok-arguments.arguments.items) m.0
    c.in_err-arguments-2.field-0.0 c.greatest.result c.greatest.ensures c.in_ok-arguments.ensures m.1 (c.in_err-arguments-2.ensures m.0 m.2))

pub returns-in-None : goal.returns-in-None
returns-in-None c =
    let names = c.args.naming.now in
    let m = meant_procedure c.in-Procedure.procedure ((naming_in names).meaning c.args.name.at) (subst (λ a. IsMeantAs a ((naming_in names).meaning c.args.name.at)) c.in-Procedure.is c.meaning.ensures) in
    call_done names c.args.name (syntax.arguments_view c.args.list.now) (map argument_view c.in_ok-arguments.arguments.items) m.0
    (arguments_view c.in_ok-arguments-2.arguments.items) None (callee_view c.in-Procedure.procedure.callee) c.greatest.result c.greatest.ensures c.in_ok-arguments.ensures m.1
    (c.in_ok-arguments-2.ensures m.0 m.2) m.2.callee (sym (ap (option_map (λ d. description_view d.now)) c.in-None.is) ∙ m.2.returned)

pub returns-in-Some : goal.returns-in-Some
returns-in-Some c =
    let names = c.args.naming.now in
    let m = meant_procedure c.in-Procedure.procedure ((naming_in names).meaning c.args.name.at) (subst (λ a. IsMeantAs a ((naming_in names).meaning c.args.name.at)) c.in-Procedure.is c.meaning.ensures) in
    subst (λ e. Fails e (spec.call_typed (naming_in names) c.args.name (syntax.arguments_view c.args.list.now))) (sym c.fault-in-Some.ensures)
    (call_done names c.args.name (syntax.arguments_view c.args.list.now) (map argument_view c.in_ok-arguments.arguments.items) m.0
    (arguments_view c.in_ok-arguments-2.arguments.items) (Some (description_view c.in-Some.field-0.now)) (callee_view c.in-Procedure.procedure.callee) c.greatest.result c.greatest.ensures c.in_ok-arguments.ensures m.1
    (c.in_ok-arguments-2.ensures m.0 m.2) m.2.callee (sym (ap (option_map (λ d. description_view d.now)) c.in-Some.is) ∙ m.2.returned))
