use Rattle.std.proofs.Common.{ap, ◌∙◌}
use Rattle.pli_operation.specs.Operations.{string_fitted_to}
use Rattle.pli_value.specs.Value.{value_view}
use Rattle.pli_world.specs.Storage.{Place}
use Rattle.pli_machine_operate.specs.views.CalculationView.{calculation_view}
use Rattle.pli_machine_operate.specs.views.OperandView.{stack}
use Rattle.pli_machine_step.specs.Machine.{calculates}
use Rattle.pli_world.specs.Strings.{string_as}
use Rattle.pli_machine_activations.specs.views.MachineView.{leads}
use Rattle.pli_machine_perform.proofs.OperationLemmas.{fits_at_newest}
use Rattle.pli_machine_perform.proofs.UsedMoves.{none_off}
use Rattle.pli_machine_perform.proofs.operate.fit_at_newest.Goals as goal

pub returns-in_ok-calculation-in-Some : goal.returns-in_ok-calculation-in-Some
returns-in_ok-calculation-in-Some c =
    let v = value_view c.args.value in
    let newest = rw c.deref.ensures.value at c.in-Some.ensures in
    fits_at_newest (calculation_view c.in_ok-calculation-in-Some.calculation) c.args.operands.now.items c.args.operands.now.items c.give.new.operands.items c.give.result
    c.in-Some.taken v newest
    (c.in_ok-calculation-in-Some.ensures ∙ ap (λ (p : Place). string_fitted_to p.description v) c.place.ensures)
    c.give.ensures

pub returns-in-None : goal.returns-in-None
returns-in-None c = λ p here frames w left.
    let ops = stack c.args.operands.now.items in
    let none = rw c.deref.ensures.value at c.in-None.ensures in
    ap (λ m. leads m left)
    (none_off ops w (λ x q below. calculates p (string_as q (value_view c.args.value) w) ops here frames w) none)
