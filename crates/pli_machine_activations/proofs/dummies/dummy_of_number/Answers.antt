use Rattle.std.proofs.Common.{◌∷◌, [], ◌++◌, refl, sym, ap, ◌∙◌, SFits, w64, rules}
use Rattle.std.proofs.lemmas.Int.{to_z-of_z}
use Rattle.std.proofs.lemmas.Result.{IfOk-weaker}
use Rattle.pli_map.specs.views.DescriptionView.{description_view}
use Rattle.pli_value.specs.Value.{Number}
use Rattle.pli_store.specs.views.StorageView.{place_view, with_storage}
use Rattle.pli_store.proofs.SameStorages.{same_storage}
use Rattle.pli_machine_step.specs.Machine.{OfValue, At, dummied, with_operands}
use Rattle.pli_machine_activations.specs.views.MachineView.{Running, leads, activation_view, activations_of, frame_view, frames_of, world_of, left_of}
use Rattle.pli_machine_operate.specs.views.OperandView.{stack}
use Rattle.pli_machine_activations.proofs.DummyArguments.{dummy_goes}
use Rattle.pli_machine_activations.proofs.dummies.dummy_of_number.Goals as goal

pub returns-in_ok-push_dummy-in-Some : goal.returns-in_ok-push_dummy-in-Some
returns-in_ok-push_dummy-in-Some c = λ image put.
    let m = c.args.machine.now in
    let frames = frames_of m.waiting.items in
    let ops = stack m.here.operands.items in
    let after = with_storage c.make_dummy_at_once.new.self (world_of image m put) in
    let left = left_of m in
    let x = c.args.number in
    let fits : SFits w64 x = search rules in
    let made = rw (to_z-of_z w64 x fits) at c.in-Some.ensures in
    rw c.deref_mut.ensures.value
    (dummy_goes (description_view c.args.description.now) (Number c.args.number) (place_view c.in-Some.place)
    (OfValue (Number c.args.number) ∷ ops) ops (frame_view m.here) frames (world_of image m put) _ left
    refl (made (world_of image m put))
    ∙ ap (λ ops. Running (At (with_operands ops (frame_view m.here)) frames
    (record after { activations = record (activation_view m.here) { pending = m.here.room.value.pending.items ++ c.in-Some.place.generation ∷ [] } ∷ activations_of m.waiting.items }) left)) (sym c.in_ok-push_dummy-in-Some.ensures)
    ∙ ap (λ ns. Running (At (with_operands (stack c.push_dummy.new.operands.items) (frame_view m.here)) frames
    (record after { activations = record (activation_view m.here) { pending = ns } ∷ activations_of m.waiting.items }) left)) (sym (rw c.deref_mut.ensures.value at c.in_ok-push-in-Some.ensures.items)))

pub returns-in-None : goal.returns-in-None
returns-in-None c =
    let m = c.args.machine.now in
    let x = c.args.number in
    let fits : SFits w64 x = search rules in
    let made = rw (to_z-of_z w64 x fits) at c.dummy_with.ensures in
    IfOk-weaker c.dummy_with.result _ _
    (λ stop moves image put.
    ap (λ w. leads (dummied (description_view c.args.description.now) (OfValue (Number x) ∷ stack m.here.operands.items) (frame_view m.here) (frames_of m.waiting.items) w) (left_of m))
    (sym (same_storage m.storage c.make_dummy_at_once.new.self (world_of image m put) c.in-None.ensures))
    ∙ moves image put)
    made
