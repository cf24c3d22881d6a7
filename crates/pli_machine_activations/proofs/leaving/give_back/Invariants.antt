use Rattle.std.proofs.Common.{◌≡◌, ℕ, List, ◌-◌}
use Rattle.pli_machine_activations.specs.views.Image.{Image}
use Rattle.pli_value.specs.Value.{value_view}
use Rattle.pli_machine_step.specs.Machine.{returned_with}
use Rattle.pli_machine_activations.specs.views.MachineView.{leads, frames_of, world_of, left_of}
use Rattle.pli_machine_activations.proofs.leaving.give_back.Given as goal

-- so many more ends lead from here where all of them lead from the beginning
abbrev pub invariant-loop-ended : goal.invariant-loop-ended
invariant-loop-ended l = record {
  way : (image : Image) (put : List ℕ)
      → leads (returned_with l.outward (value_view l.initial.value) (frames_of l.initial.machine.waiting.items) (world_of image l.initial.machine put)) (left_of l.initial.machine)
      ≡ leads (returned_with (l.outward - l._ended) (value_view l.initial.value) (frames_of l.machine.waiting.items) (world_of image l.machine put)) (left_of l.machine);
  same : value_view l.value ≡ value_view l.initial.value;
}
