use Rattle.std.proofs.Common.{◌≡◌, ℕ, List, ◌-◌}
use Rattle.pli_machine_activations.specs.views.Image.{Image}
use Rattle.pli_machine_step.specs.Machine.{returned}
use Rattle.pli_machine_activations.specs.views.MachineView.{leads, frames_of, world_of, left_of}
use Rattle.pli_machine_activations.proofs.leaving.return_from.Given as goal

-- so many more ends lead from here where all of them lead from the beginning
abbrev pub invariant-loop-ended : goal.invariant-loop-ended
invariant-loop-ended l =
    (image : Image) (put : List ℕ)
    → leads (returned l.outward (frames_of l.initial.machine.waiting.items) (world_of image l.initial.machine put)) (left_of l.initial.machine)
    ≡ leads (returned (l.outward - l._ended) (frames_of l.machine.waiting.items) (world_of image l.machine put)) (left_of l.machine)
