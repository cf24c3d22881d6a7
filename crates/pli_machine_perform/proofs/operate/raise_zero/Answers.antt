use Rattle.std.proofs.Common.{sym, ap, ◌∙◌}
use Rattle.pli_base.specs.declared.statement.Condition.TheVariants as conditions
use Rattle.pli_operation.specs.Operations.{RaisesCondition}
use Rattle.pli_world.specs.Conditions.{handler}
use Rattle.pli_machine_step.specs.Machine.{raises, with_operands}
use Rattle.pli_machine_operate.specs.views.OperandView.{stack}
use Rattle.pli_machine_activations.specs.views.MachineView.{leads}
use Rattle.pli_machine_perform.specs.views.ActView.{calculated_as}
use Rattle.pli_machine_perform.proofs.operate.raise_zero.Goals as goal

pub returns-in-Overflow : goal.returns-in-Overflow
returns-in-Overflow c = λ p here frames w left.
    ap (λ r. leads (calculated_as (RaisesCondition r) p (stack c.args.operands.now.items) here frames w) left) c.in-Overflow.is
    ∙ ap (λ ops. leads (raises p conditions.FixedOverflow (handler conditions.FixedOverflow w.activations) (with_operands ops here) frames w) left) (sym c.in_ok-push.ensures)

pub returns-in-ZeroDivide : goal.returns-in-ZeroDivide
returns-in-ZeroDivide c = λ p here frames w left.
    ap (λ r. leads (calculated_as (RaisesCondition r) p (stack c.args.operands.now.items) here frames w) left) c.in-ZeroDivide.is
    ∙ ap (λ ops. leads (raises p conditions.ZeroDivide (handler conditions.ZeroDivide w.activations) (with_operands ops here) frames w) left) (sym c.in_ok-push.ensures)
