use Rattle.std.proofs.Common.{◌≡◌, ℕ, List, ◌∷◌, length}
use Rattle.pli_machine_activations.specs.views.Image.{Image}
use Rattle.pli_machine_step.specs.Machine.{lands}
use Rattle.pli_machine_activations.specs.views.MachineView.{leads, frame_view, frames_of, world_of, left_of}
use Rattle.pli_machine_perform.proofs.landing.land.Given as goal

-- the jump leads from here where it leads from the beginning
abbrev pub invariant-loop-machine : goal.invariant-loop-machine
invariant-loop-machine l =
    (image : Image) (put : List ℕ)
    → leads (lands l.height l.target (frame_view l.initial.machine.here ∷ frames_of l.initial.machine.waiting.items) (world_of image l.initial.machine put)) (left_of l.initial.machine)
    ≡ leads (lands l.height l.target (frame_view l.machine.here ∷ frames_of l.machine.waiting.items) (world_of image l.machine put)) (left_of l.machine)

abbrev pub decreases-loop-machine : goal.decreases-loop-machine
decreases-loop-machine l = length l.machine.waiting.items
