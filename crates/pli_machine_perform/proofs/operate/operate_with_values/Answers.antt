use Rattle.std.proofs.Common.{[], ◌∷◌, ap, ◌∙◌}
use Rattle.pli_operation.specs.Operations.{calculated_with}
use Rattle.pli_value.specs.Value.{value_view}
use Rattle.pli_machine_step.specs.Machine.{values_off}
use Rattle.pli_machine_operate.specs.views.CalculationView.{calculation_view}
use Rattle.pli_machine_operate.specs.views.OperandView.{taken_view}
use Rattle.pli_machine_perform.proofs.OperationLemmas.{operates_with}
use Rattle.pli_machine_passes.proofs.CalculatedLemmas.{of_two}
use Rattle.pli_machine_perform.proofs.operate.operate_with_values.Goals as goal

pub returns : goal.returns
returns c =
    let last = rw c.in-Some.is at c.in_ok-right.ensures in
    let first = rw c.in-Some-2.is at c.in_ok-left.ensures in
    operates_with (calculation_view c.in_ok-calculation.calculation) c.args.operands.now.items c.pop_value.new.operands.items c.give.new.operands.items c.give.result
    c.args.greatest c.args.operation 2 (value_view c.in-Some-2.left ∷ taken_view c.in-Some.right ∷ [])
    (ap (values_off 2 []) last ∙ ap (values_off 1 (taken_view c.in-Some.right ∷ [])) first)
    (c.in_ok-calculation.ensures ∙ ap (calculated_with c.args.greatest c.args.operation (value_view c.in-Some-2.left)) c.value.ensures ∙ of_two c.args.greatest _ _ _) c.give.ensures
