use Rattle.std.proofs.Common.{◌≡◌, take, map}
use Rattle.std.specs.Prelude.{not}
use Rattle.std.specs.List.{filter}
use Rattle.pli_world.specs.World.{is_given}
use Rattle.pli_store.specs.views.StorageView.{place_view}
use Rattle.pli_machine_activations.proofs.arguments.hand_some_over.Given as goal

-- so far each is in its list
abbrev pub invariant-loop-generation : goal.invariant-loop-generation
invariant-loop-generation l = record {
  handed : l.handed.items ≡ filter (is_given (map place_view l.places)) (take l.generation-index l.pending);
  others : l.others.items ≡ filter (λ g. not (is_given (map place_view l.places) g)) (take l.generation-index l.pending);
}
