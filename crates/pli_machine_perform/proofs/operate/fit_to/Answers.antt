use Rattle.pli_map.specs.views.DescriptionView.{description_view}
use Rattle.pli_value.specs.Value.{value_view}
use Rattle.pli_machine_operate.specs.views.CalculationView.{calculation_view}
use Rattle.pli_machine_perform.proofs.OperationLemmas.{fits_newest}
use Rattle.pli_machine_perform.proofs.operate.fit_to.Goals as goal

pub returns : goal.returns
returns c =
    fits_newest (calculation_view c.in_ok-calculation.calculation) c.args.operands.now.items c.pop_value.new.operands.items c.give.new.operands.items c.give.result
    (description_view c.args.description.now) (value_view c.in-Some.value) (rw c.in-Some.is at c.in_ok-value.ensures)
    c.in_ok-calculation.ensures c.give.ensures
