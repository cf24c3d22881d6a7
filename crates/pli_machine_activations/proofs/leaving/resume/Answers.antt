use Rattle.std.proofs.Common.{◌-◌, ◌+◌, refl, arith}
use Rattle.pli_machine_activations.specs.views.MachineView.{frame_view, frames_of, world_of, left_of}
use Rattle.pli_machine_activations.proofs.EndLemmas.{goes_at_once, goes_out, goes_by_step}
use Rattle.pli_machine_activations.proofs.EnteredBlocks.{step_more}
use Rattle.pli_machine_activations.proofs.leaving.resume.Goals as goal

pub returns-then-not-machine : goal.returns-then-not-machine
returns-then-not-machine c = λ image put.
    let m = c.args.machine.now in
    goes_at_once m.here.again (frame_view m.here) (frames_of m.waiting.items) (world_of image m put) (left_of m) c.if-not-machine.true

pub returns-then-machine : goal.returns-then-machine
returns-then-machine c = λ image put.
    let m = c.args.machine.now in
    goes_out m.here.again (frame_view m.here) (frames_of m.waiting.items) (world_of image m put) (left_of m) c.if-not-machine.false (omega arith)

pub returns : goal.returns
returns c = λ image put.
    let m = c.args.machine.now in
    goes_by_step m.here.again (frame_view m.here) (frames_of m.waiting.items) (world_of image m put) (left_of m) (m.limit - (m.steps + 1))
    (record (world_of image m put) { steps = m.steps + 1 }) c.if-not-machine.false (omega arith) (step_more (world_of image m put) m.steps refl)
