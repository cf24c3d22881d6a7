use Rattle.std.proofs.Common.{ap, ◌∙◌}
use Rattle.std.proofs.lemmas.Result.{IfOk-weaker}
use Rattle.pli_machine_step.specs.Machine.{runs_on_unit}
use Rattle.pli_machine_activations.specs.views.HandlerView.{handler_view}
use Rattle.pli_machine_activations.specs.views.MachineView.{leads, frame_view, frames_of, world_of, left_of}
use Rattle.pli_machine_activations.proofs.LinkedUnits.{code_there, none_there}
use Rattle.pli_machine_activations.proofs.conditions.run_on_unit.Goals as goal

pub returns-in-Some : goal.returns-in-Some
returns-in-Some c =
    let m = c.args.machine.now in
    let there = rw c.in-Some.is at c.linked_at.ensures in
    IfOk-weaker c.run_block.result _ _
    (λ stop moves image put.
    ap (λ o. leads (runs_on_unit (handler_view c.args.handler) o (record (frame_view m.here) { again = c.args.again }) (frames_of m.waiting.items) (world_of image m put)) (left_of m))
    (code_there c.args.loaded.now.«module».now c.args.handler.unit c.in-Some.linked.now there)
    ∙ moves image put)
    c.run_block.ensures

pub returns-in-None : goal.returns-in-None
returns-in-None c = λ image put.
    let m = c.args.machine.now in
    let there = rw c.in-None.is at c.linked_at.ensures in
    ap (λ o. leads (runs_on_unit (handler_view c.args.handler) o (record (frame_view m.here) { again = c.args.again }) (frames_of m.waiting.items) (world_of image m put)) (left_of m))
    (none_there c.args.loaded.now.«module».now c.args.handler.unit there)

pub invariant_of-ready : goal.invariant_of-ready
invariant_of-ready c = record {
  are_laid = c.laid_at.ensures c.in-Some.linked.now (rw c.in-Some.is at c.linked_at.ensures);
}
