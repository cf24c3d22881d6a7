use Rattle.std.proofs.Common.{sym, ◌∙◌, arith}
use Rattle.std.proofs.lemmas.Result.{err_from_is_err_and}
use Rattle.pli_parse_declaration.specs.DeclarationReading.{nest_at}
use Rattle.pli_parse_declaration.specs.answers.DeclarationAnswers.{walk_view}
use Rattle.pli_parse_declaration.proofs.DeclarationNests.{begins, fails, goes_on, is_done}
use Rattle.pli_parse_declaration.proofs.nest.nest_at.Goals as goal

pub loop-nest-init : goal.loop-nest-init
loop-nest-init c = record { value = rw c.new-nest.ensures (begins c.args.at c.args.texts.now); place = (omega arith, omega arith) }

pub returns-in_err-step-clause-value : goal.returns-in_err-step-clause-value
returns-in_err-step-clause-value c =
    let p = err_from_is_err_and c.from_residual.result c.from_residual.ensures.1 in
    rw (p.1, p.2) (fails c.loop-nest.nest c.loop-nest.expects c.loop-nest.next c.loop-nest.rest.now (nest_at c.args.at c.args.texts.now) c.in_err-step.field-0.0 c.in_err-step.ensures.value c.loop-nest.invariant.value)

pub returns-then-is_over-clause-value : goal.returns-then-is_over-clause-value
returns-then-is_over-clause-value c =
    is_done c.loop-nest.nest c.loop-nest.expects c.loop-nest.next c.loop-nest.rest.now (nest_at c.args.at c.args.texts.now) (walk_view c.step_at.new.nest c.in_ok-step.step) c.in_ok-step.ensures.value (sym c.is_over.ensures ∙ c.if-is_over.true) c.loop-nest.invariant.value

pub loop-nest-preserved : goal.loop-nest-preserved
loop-nest-preserved c =
    record {
      value = goes_on c.loop-nest.nest c.loop-nest.expects c.loop-nest.next c.loop-nest.rest.now (nest_at c.args.at c.args.texts.now) (walk_view c.step_at.new.nest c.in_ok-step.step) c.in_ok-step.ensures.value (omega (arith, c.in_ok-step.ensures.place)) (sym c.is_over.ensures ∙ c.if-is_over.false) c.loop-nest.invariant.value;
      place = (omega (arith, c.in_ok-step.ensures.place), omega (arith, c.in_ok-step.ensures.place));
    }
