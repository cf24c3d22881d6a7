use Rattle.std.proofs.Common.{[], ◌∷◌, ◌∙◌}
use Rattle.pli_value.specs.Value.{value_view}
use Rattle.pli_machine_operate.specs.views.CalculationView.{calculation_view}
use Rattle.pli_machine_perform.proofs.OperationLemmas.{operates}
use Rattle.pli_machine_passes.proofs.CalculatedLemmas.{of_three}
use Rattle.pli_machine_perform.proofs.operate.operate_by_values.Goals as goal

pub returns : goal.returns
returns c =
    operates (calculation_view c.in_ok-calculation.calculation) c.args.operands.now.items c.pop_three.new.operands.items c.give.new.operands.items c.give.result
    c.args.operation 3 (value_view c.in-Some.first ∷ value_view c.in-Some.second ∷ value_view c.in-Some.third ∷ [])
    (rw c.in-Some.is at c.in_ok-first.ensures) (λ greatest. c.in_ok-calculation.ensures ∙ of_three greatest _ _ _ _) c.give.ensures
