use Rattle.std.proofs.Common.{◌∷◌, refl, ap, ◌∙◌, rules}
use Rattle.std.proofs.lemmas.Fn.{filter_same}
use Rattle.pli_store.specs.views.StorageView.{place_view}
use Rattle.pli_machine_activations.specs.views.MachineView.{activation_view, activations_of, world_of}
use Rattle.pli_machine_activations.proofs.EndLemmas.{same_world}
use Rattle.pli_machine_activations.proofs.GivenPlaces.{but_one}
use Rattle.pli_machine_activations.proofs.dummies.end_dummy.Goals as goal

pub returns : goal.returns
returns c =
    let m = c.args.machine.now in
    let filtered = rw c.deref_mut.ensures.value at c.retain.ensures.filtered in
    rw c.deref_mut.ensures.value
    (record {
      world = λ image put.
          same_world (world_of image m put) _ _ _ _ _ _
          c.end.ensures.storage
          c.end.ensures.made
          (ap (λ ns. record (activation_view m.here) { pending = ns } ∷ activations_of m.waiting.items)
          (filter_same _ _ _ (λ x b f' k. search rules) _ _ filtered ∙ but_one (place_view c.args.dummy) m.here.room.value.pending.items));
      here = refl;
      frames = refl;
      left = refl;
    })
