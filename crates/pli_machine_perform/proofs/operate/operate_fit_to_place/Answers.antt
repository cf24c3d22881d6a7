use Rattle.pli_value.specs.Value.{value_view}
use Rattle.pli_operation.specs.Operations.{Misfits}
use Rattle.pli_machine_perform.proofs.OperationLemmas.{fits_string}
use Rattle.pli_machine_perform.proofs.operate.operate_fit_to_place.Goals as goal

pub returns : goal.returns
returns c =
    fits_string Misfits c.args.operands.now.items c.pop_value.new.operands.items c.fit_at_newest.new.operands.items c.fit_at_newest.result
    (value_view c.in-Some.value) (rw c.in-Some.is at c.in_ok-value.ensures) c.fit_at_newest.ensures
