use Rattle.std.proofs.Common.{Some, ◌∷◌, ap, sym, ◌∙◌}
use Rattle.pli_machine_step.specs.Machine.{OfValue}
use Rattle.pli_machine_operate.specs.declared.operand.Operand.TheVariants as operand
use Rattle.pli_machine_operate.specs.views.OperandView.{stack}
use Rattle.pli_machine_operate.proofs.StackLemmas.{stack_popped}
use Rattle.pli_machine_operate.proofs.operand.take_value.Goals as goal

pub returns-in-Some-OfValue : goal.returns-in-Some-OfValue
returns-in-Some-OfValue c =
    let arm = c.in-Some-OfValue in
    stack_popped c.args.operands.now.items c.pop.new.self.items c.pop.result (operand.OfValue arm.value) c.pop.ensures.items (arm.is ∙ ap Some arm.field-0-is)

pub returns-in-Some-OfConstant : goal.returns-in-Some-OfConstant
returns-in-Some-OfConstant c =
    let arm = c.in-Some-OfConstant in
    stack_popped c.args.operands.now.items c.pop.new.self.items c.pop.result (operand.OfConstant arm.value) c.pop.ensures.items (arm.is ∙ ap Some arm.field-0-is)

pub returns-in_ok-one_bit-in-Some-OneBit : goal.returns-in_ok-one_bit-in-Some-OneBit
returns-in_ok-one_bit-in-Some-OneBit c =
    let arm = c.in-Some-OneBit in
    stack_popped c.args.operands.now.items c.pop.new.self.items c.pop.result (operand.OneBit arm.bit) c.pop.ensures.items (arm.is ∙ ap Some arm.field-0-is) ∙ ap (λ v. OfValue v ∷ stack c.pop.new.self.items) (sym c.in_ok-one_bit-in-Some-OneBit.ensures)
