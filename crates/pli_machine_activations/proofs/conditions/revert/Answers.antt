use Rattle.std.proofs.Common.{◌∷◌, sym, ap}
use Rattle.pli_world.specs.Conditions.{reverted}
use Rattle.pli_machine_step.specs.Machine.{At}
use Rattle.pli_machine_activations.specs.views.MachineView.{activation_view, activations_of, frame_view, frames_of, world_of, left_of, Running}
use Rattle.pli_machine_activations.proofs.conditions.revert.Goals as goal

pub returns : goal.returns
unfolding reverted
returns c = λ image put.
    let m = c.args.machine.now in
    let w = world_of image m put in
    ap
    (λ us. Running
    (At (frame_view m.here) (frames_of m.waiting.items) (record w { activations = record (activation_view m.here) { on_units = us } ∷ activations_of m.waiting.items }) (left_of m)))
    (sym c.set.ensures)
