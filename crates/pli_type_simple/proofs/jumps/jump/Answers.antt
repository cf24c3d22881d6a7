use Rattle.std.proofs.Common.{ap, sym, ◌∙◌, subst}
use Rattle.pli_base.specs.declared.code.Code.TheVariants.{BadGoto}
use Rattle.pli_type_rules.specs.StatementTyping as spec
use Rattle.pli_base.specs.answers.FailureAnswers.{Fails}
use Rattle.pli_type_names.specs.SymbolMeaning.{IsMeantAs}
use Rattle.pli_type_names.specs.UnitNaming.{naming_in}
use Rattle.pli_type_parts.specs.Around.{blocks_of, surroundings_of}
use Rattle.pli_type_parts.specs.views.AroundView.{around_view, lists_view}
use Rattle.pli_type_simple.proofs.CallLemmas.{meant_label, no_jump}
use Rattle.pli_type_rules.specs.Typing.{or_fault}
use Rattle.pli_type_rules.specs.TypingSteps as steps
use Rattle.pli_type_simple.proofs.jumps.jump.Goals as goal

pub returns-in_default : goal.returns-in_default
returns-in_default c =
    let n = naming_in c.args.naming.now in
    let s = surroundings_of (around_view c.args.around.now) in
    subst (λ e. Fails e (spec.goto_typed n s c.args.label)) (sym c.fault.ensures)
    (ap (or_fault BadGoto c.args.label.at) (no_jump s c.meaning.result (n.meaning c.args.label.at) c.meaning.ensures c.in_default.not-Label))

pub returns-in-None : goal.returns-in-None
returns-in-None c =
    let n = naming_in c.args.naming.now in
    let s = surroundings_of (around_view c.args.around.now) in
    let is = meant_label c.in-Label.statement (n.meaning c.args.label.at) (subst (λ a. IsMeantAs a (n.meaning c.args.label.at)) c.in-Label.is c.meaning.ensures) in
    subst (λ e. Fails e (spec.goto_typed n s c.args.label)) (sym c.fault-in-None.ensures)
    (ap (λ m. or_fault BadGoto c.args.label.at (spec.jump s m)) is
    ∙ ap (λ o. or_fault BadGoto c.args.label.at (steps.jump_to c.in-Label.statement o))
    (ap (λ ls. spec.label_found (blocks_of (lists_view ls)) c.in-Label.statement) (sym c.as_slice.ensures.value) ∙ sym c.outward_to.ensures ∙ c.in-None.is))
