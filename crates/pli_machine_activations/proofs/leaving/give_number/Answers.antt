use Rattle.std.proofs.Common.{refl, sym, ap, subst, ◌∙◌, SFits, w64, rules}
use Rattle.std.specs.Prelude.{IfSome}
use Rattle.std.proofs.lemmas.Int.{to_z-of_z}
use Rattle.pli_value.specs.Value.{Number}
use Rattle.pli_machine_step.specs.Machine.{goes_on, with_operands}
use Rattle.pli_machine_operate.specs.declared.operand.Operand.TheVariants as held
use Rattle.pli_machine_operate.specs.views.OperandView.{stack}
use Rattle.pli_machine_operate.proofs.StackLemmas.{stack_push}
use Rattle.pli_value.specs.declared.value.Value.TheVariants as value
use Rattle.pli_machine_activations.specs.answers.Activated.{Awaits}
use Rattle.pli_machine_activations.specs.views.MachineView.{frame_view, waiting_view, frames_of, world_of, left_of, leads}
use Rattle.pli_machine_activations.proofs.EndLemmas.{goes_at_once, valued_goes}
use Rattle.pli_machine_activations.proofs.leaving.give_number.Goals as goal

pub push_reserved-requires : goal.push_reserved-requires
push_reserved-requires c =
    let some = c.leave_at_once-left.ensures.some (c.is_awaited.ensures.some c.if-not-is_awaited.false) in
    (subst (λ o. IfSome o Awaits) (c.leave_at_once-left.ensures.next some) (c.is_awaited.ensures.awaits c.if-not-is_awaited.false)).memory

pub returns-clause-given : goal.returns-clause-given
returns-clause-given c = λ _ image put.
    let m = c.leave_at_once-left.new.machine in
    let some = c.leave_at_once-left.ensures.some (c.is_awaited.ensures.some c.if-not-is_awaited.false) in
    let left = rw some at c.leave_at_once-left.ensures.leaves image put in
    let next = subst (λ o. IfSome o Awaits) (c.leave_at_once-left.ensures.next some) (c.is_awaited.ensures.awaits c.if-not-is_awaited.false) in
    let n = c.args.number in
    let fits : SFits w64 n = search rules in
    let x = Number n in
    let pushed = ap stack (rw (to_z-of_z w64 n fits) at c.push_reserved.ensures.items) ∙ stack_push m.here.operands.items (held.OfValue (value.Number n)) in
    valued_goes x 0 _ _ _ _ _ _ _ refl left.frames left.world left.left
    ∙ ap (λ ops. leads (goes_on m.here.again (with_operands ops (waiting_view m.here)) (frames_of m.waiting.items) (world_of image m put)) (left_of m)) (sym pushed)
    ∙ goes_at_once m.here.again (with_operands (stack c.push_reserved.new.self.items) (frame_view m.here)) (frames_of m.waiting.items) (world_of image m put) (left_of m) next.at_once
