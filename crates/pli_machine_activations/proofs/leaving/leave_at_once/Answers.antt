use Rattle.std.proofs.Common.{◌≡◌, ◌-◌, Some, ◌∷◌, ◌++◌, [], length, map, reverse, slice_get, refl, sym, ap, subst, ◌∙◌, arith}
use Rattle.std.proofs.Math.Seq.{get_or-append_seam}
use Rattle.std.proofs.lemmas.Option.{slice_get_read}
use Rattle.std.specs.Prelude.{vec_len}
use Rattle.std.proofs.lemmas.Bool.{eqb-true}
use Rattle.std.proofs.lemmas.List.{length-append, nil_from_length}
use Rattle.pli_world.specs.Storage.{without}
use Rattle.pli_world.specs.World.{left_by}
use Rattle.pli_store.specs.views.StorageView.{storage_view}
use Rattle.pli_machine_activations.specs.declared.machine.Activation.{Activation}
use Rattle.pli_machine_activations.specs.declared.room.Room.{Room}
use Rattle.pli_machine_activations.specs.answers.EmptyLists.{AreEmpty}
use Rattle.pli_machine_activations.specs.views.MachineView.{activation_view, activations_of, waiting_view, frames_of, world_of}
use Rattle.pli_store.proofs.RisingNumbers.{without_append}
use Rattle.pli_machine_activations.proofs.DisplayLemmas.{one_fewer}
use Rattle.pli_machine_activations.proofs.EndLemmas.{newest_first, same_world}
use Rattle.pli_machine_activations.proofs.leaving.leave_at_once.Goals as goal

pub keep-requires-clause-empty : goal.keep-requires-clause-empty
keep-requires-clause-empty c =
    subst (λ (a : Activation). AreEmpty a.operands.items a.room.value.pending.items) (sym c.replace-ended.ensures.value) c.empty.ensures.empty

pub keep-requires-clause-owned : goal.keep-requires-clause-owned
keep-requires-clause-owned c =
    ap (λ (a : Activation). a.room.value.owned.items) c.replace-ended.ensures.value ∙ c.empty.ensures.owned

pub turn-requires : goal.turn-requires
turn-requires c =
    rw c.deref-5.ensures.value
    (λ low.
    one_fewer c.take_last-next.new.self.items c.args.machine.now.waiting.items c.take_last-next.result _ _ c.take_last-next.ensures.items
    c.args.machine.now.displayed low)

pub returns-then-is_empty-clause-leaves : goal.returns-then-is_empty-clause-leaves
returns-then-is_empty-clause-leaves c = λ image put.
    let waiting = c.args.machine.now.waiting in
    let none : waiting.items ≡ [] = nil_from_length waiting.items (omega (arith, waiting.ok.0, eqb-true (vec_len waiting) 0 (sym c.is_empty.ensures ∙ c.if-is_empty.true))) in
    record { frames = ap (λ xs. reverse (map waiting_view xs)) none; world = refl; left = refl }

pub returns-clause-leaves : goal.returns-clause-leaves
unfolding left_by
returns-clause-leaves c = λ image put.
    let here = c.args.machine.now.here in
    let storage = storage_view c.args.machine.now.storage in
    let rest = c.take_last-next.new.self.items in
    let next = c.take_last-next.result in
    record {
      frames =
          ap (λ xs. reverse (map waiting_view xs)) c.take_last-next.ensures.items
          ∙ newest_first waiting_view rest next
          ∙ ap (λ a. waiting_view a ∷ frames_of rest) (sym c.replace-ended.ensures.after);
      world =
          same_world (world_of image c.args.machine.now put) _ _ _ _ _ _
          (c.end-2.ensures.storage
          ∙ ap (λ ns. without ns (storage_view c.end.new.self)) (c.deref-4.ensures.value ∙ ap (λ (r : Room). r.owned.items) c.deref-3.ensures)
          ∙ ap (without here.room.value.owned.items) (c.end.ensures.storage ∙ ap (λ ns. without ns storage) (c.deref-2.ensures.value ∙ ap (λ (r : Room). r.pending.items) c.deref.ensures))
          ∙ sym (without_append here.room.value.pending.items here.room.value.owned.items storage))
          (c.end-2.ensures.made ∙ c.end.ensures.made)
          (sym (ap (λ xs. reverse (map activation_view xs)) c.take_last-next.ensures.items
          ∙ newest_first activation_view rest next
          ∙ ap (λ a. activation_view a ∷ activations_of rest) (sym c.replace-ended.ensures.after)));
      left = refl;
    }

pub returns-clause-next : goal.returns-clause-next
returns-clause-next c = λ _.
    let waiting = c.args.machine.now.waiting in
    let rest = c.take_last-next.new.self.items in
    let next = c.take_last-next.result in
    let here : vec_len waiting - 1 ≡ length rest = omega (arith, length-append rest (next ∷ []), ap length c.take_last-next.ensures.items, waiting.ok.0) in
    ap (λ k. slice_get waiting.items k) here
    ∙ ap (λ xs. slice_get xs (length rest)) c.take_last-next.ensures.items
    ∙ slice_get_read (rest ++ next ∷ []) (length (rest ++ next ∷ [])) (length rest) next refl (omega (arith, length-append rest (next ∷ []))) (sym (get_or-append_seam rest next [] next))
    ∙ ap Some (sym c.replace-ended.ensures.after)
