use Rattle.std.proofs.Common.{◌≡◌, ◌-◌, [], map, reverse}
use Rattle.pli_store.specs.views.StorageView.{place_view}
use Rattle.pli_machine_step.specs.Machine.{places_off}
use Rattle.pli_machine_operate.specs.views.OperandView.{stack}
use Rattle.pli_machine_activations.proofs.arguments.pop_more.Given as goal

-- what is left to take goes on from what was taken
abbrev pub invariant-loop-taken : goal.invariant-loop-taken
invariant-loop-taken l =
    places_off l.count [] (stack l.initial.operands.items)
    ≡ places_off (l.count - l._taken) (map place_view (reverse l.places.items)) (stack l.operands.items)
