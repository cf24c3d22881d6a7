use Rattle.std.proofs.Common.{◌≡◌, ◌-◌, ◌≤◌, length, map}
use Rattle.pli_world.specs.Activations.{outward_from}
use Rattle.pli_machine_activations.specs.views.MachineView.{activation_view, activations_of}
use Rattle.pli_machine_activations.proofs.LinkWalkLemmas.{first_of}
use Rattle.pli_machine_activations.proofs.walk.outer.Given as goal

-- from the height that is reached, what is left of the way leads where the whole way leads
abbrev pub invariant-loop-passed : goal.invariant-loop-passed
invariant-loop-passed l = record {
  within : l.count ≤ length l.waiting;
  way : outward_from (activations_of l.waiting) l.link l.outward
      ≡ outward_from (first_of (map activation_view l.waiting) l.count) l.height (l.outward - l._passed);
}
