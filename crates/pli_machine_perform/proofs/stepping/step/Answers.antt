use Rattle.std.proofs.Common.{refl}
use Rattle.pli_machine_activations.specs.views.MachineView.{world_of, frame_view, frames_of}
use Rattle.pli_machine_passes.proofs.WorldLemmas.{step_taken}
use Rattle.pli_machine_perform.proofs.stepping.step.Goals as goal

pub returns : goal.returns
returns c = λ u image put.
    step_taken c.args.statement (frame_view c.args.machine.now.here) (frames_of c.args.machine.now.waiting.items) (world_of image c.args.machine.now put)
    c.args.machine.now.limit c.args.machine.now.steps refl c.if-machine.false
