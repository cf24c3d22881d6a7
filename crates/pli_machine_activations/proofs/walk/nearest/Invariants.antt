use Rattle.std.proofs.Common.{◌≡◌, ◌≤◌, length, map}
use Rattle.pli_world.specs.Activations.{nearest_of}
use Rattle.pli_machine_activations.specs.views.MachineView.{activation_view, activations_of}
use Rattle.pli_machine_activations.proofs.LinkWalkLemmas.{first_of}
use Rattle.pli_machine_activations.proofs.walk.nearest.Given as goal

-- from the height that is reached the nearest is the nearest of all
abbrev pub invariant-loop-height : goal.invariant-loop-height
invariant-loop-height l = record {
  within : l.count ≤ length l.waiting;
  way : nearest_of l.unit l.block (activations_of l.waiting) l.link
      ≡ nearest_of l.unit l.block (first_of (map activation_view l.waiting) l.count) l.height;
}

abbrev pub decreases-loop-height : goal.decreases-loop-height
decreases-loop-height l = l.count
