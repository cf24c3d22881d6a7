use Rattle.std.proofs.Common.{◌+◌, [], drop, ap, ◌∙◌, sym, arith}
use Rattle.pli_parse_expression.specs.Assignments.{accepts, move, kind_of, is_assignment}
use Rattle.pli_parse_expression.specs.declared.assignment.Frame.TheVariants.{Target}
use Rattle.pli_parse_expression.specs.declared.assignment.State.TheVariants.{NameWanted}
use Rattle.pli_parse_expression.specs.answers.Tests.{onto, answered}
use Rattle.pli_parse_expression.proofs.FrameLemmas.{step_on, no_token}
use Rattle.pli_parse_expression.proofs.assignment.is_assignment.Goals as goal

pub loop-text-init : goal.loop-text-init
unfolding is_assignment
loop-text-init c = ap (λ fs. accepts NameWanted Target (onto fs []) c.args.texts.now) c.new-around.ensures.items

pub returns-in_default : goal.returns-in_default
returns-in_default c =
    sym (step_on c.loop-text.state c.loop-text.frame c.loop-text.around.items c.moved.new.around.items c.args.texts.now c.loop-text.text-index c.text-item.result (is_assignment c.args.texts.now) c.movement-step.result
    c.in_ok-there.field-0 (omega arith) c.loop-text.invariant (c.movement-step.ensures ∙ ap (move c.loop-text.state c.loop-text.frame) (c.kind_of.ensures ∙ ap kind_of c.text-item.is)) c.in_ok-there.ensures
    ∙ ap (answered (λ s f fs. accepts s f fs (drop (c.loop-text.text-index + 1) c.args.texts.now)) (onto c.moved.new.around.items [])) c.in_default.is)

pub loop-text-preserved : goal.loop-text-preserved
loop-text-preserved c =
    sym (step_on c.loop-text.state c.loop-text.frame c.loop-text.around.items c.moved.new.around.items c.args.texts.now c.loop-text.text-index c.text-item.result (is_assignment c.args.texts.now) c.movement-step.result
    c.in_ok-there.field-0 (omega arith) c.loop-text.invariant (c.movement-step.ensures ∙ ap (move c.loop-text.state c.loop-text.frame) (c.kind_of.ensures ∙ ap kind_of c.text-item.is)) c.in_ok-there.ensures
    ∙ ap (answered (λ s f fs. accepts s f fs (drop (c.loop-text.text-index + 1) c.args.texts.now)) (onto c.moved.new.around.items [])) c.in-Some.is)

pub returns : goal.returns
returns c = c.may_end.ensures ∙ sym (no_token c.loop-text.state c.loop-text.frame (onto c.loop-text.around.items []) c.args.texts.now c.loop-text.text-index (omega arith)) ∙ c.loop-text.invariant
