use Rattle.std.proofs.Common.{◌≡◌, ◌≤◌, length}
use Rattle.pli_world.specs.Conditions.{handler}
use Rattle.pli_machine_activations.specs.views.MachineView.{activations_of}
use Rattle.pli_machine_activations.proofs.LinkLemmas.{views}
use Rattle.pli_machine_activations.proofs.LinkWalkLemmas.{first_of}
use Rattle.pli_machine_activations.proofs.conditions.waiting_handler.Given as goal

-- of those that are left the same one takes the condition
abbrev pub invariant-loop-count : goal.invariant-loop-count
invariant-loop-count l = record {
  within : l.count ≤ length l.machine.waiting.items;
  way : handler l.condition (activations_of l.machine.waiting.items)
      ≡ handler l.condition (first_of (views l.machine.waiting.items) l.count);
}

abbrev pub decreases-loop-count : goal.decreases-loop-count
decreases-loop-count l = l.count
