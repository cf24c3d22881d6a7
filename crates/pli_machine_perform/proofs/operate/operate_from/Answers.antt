use Rattle.std.proofs.Common.{[], ◌∷◌, ap, ◌∙◌}
use Rattle.pli_value.specs.Value.{value_view}
use Rattle.pli_machine_step.specs.Machine.{values_off}
use Rattle.pli_machine_operate.specs.views.CalculationView.{calculation_view}
use Rattle.pli_machine_perform.proofs.OperationLemmas.{operates}
use Rattle.pli_machine_passes.proofs.CalculatedLemmas.{of_one}
use Rattle.pli_machine_perform.proofs.operate.operate_from.Goals as goal

pub returns : goal.returns
returns c =
    let taken = rw c.in-Some.is at c.in_ok-value.ensures in
    operates (calculation_view c.in_ok-calculation.calculation) c.args.operands.now.items c.pop_value.new.operands.items c.give.new.operands.items c.give.result
    c.args.operation 1 (value_view c.in-Some.value ∷ [])
    (ap (values_off 1 []) taken) (λ greatest. c.in_ok-calculation.ensures ∙ of_one greatest _ _) c.give.ensures
