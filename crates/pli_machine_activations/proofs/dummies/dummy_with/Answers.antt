use Rattle.std.proofs.Common.{◌∷◌, [], ◌++◌, refl, sym, ap, ◌∙◌}
use Rattle.pli_map.specs.views.DescriptionView.{description_view}
use Rattle.pli_value.specs.Value.{value_view}
use Rattle.pli_world.specs.World.{dummy_of}
use Rattle.pli_store.specs.views.StorageView.{place_view, with_storage}
use Rattle.pli_machine_step.specs.Machine.{OfValue, AtDummy, At, pushes, with_operands}
use Rattle.pli_machine_activations.specs.views.MachineView.{Running, activation_view, activations_of, frame_view, frames_of, world_of, left_of}
use Rattle.pli_machine_operate.specs.views.OperandView.{stack}
use Rattle.pli_machine_activations.proofs.DummyArguments.{dummy_goes}
use Rattle.pli_machine_activations.proofs.StorageAnswers.{answer_stops}
use Rattle.pli_machine_activations.proofs.dummies.dummy_with.Goals as goal

pub returns-in_ok-push_dummy-in-Ok : goal.returns-in_ok-push_dummy-in-Ok
returns-in_ok-push_dummy-in-Ok c = λ image put.
    let m = c.args.machine.now in
    let frames = frames_of m.waiting.items in
    let ops = stack m.here.operands.items in
    let after = with_storage c.make_dummy.new.self (world_of image m put) in
    let left = left_of m in
    rw c.deref_mut.ensures.value
    (dummy_goes (description_view c.args.description.now) (value_view c.args.value) (place_view c.in-Ok.place)
    (OfValue (value_view c.args.value) ∷ ops) ops (frame_view m.here) frames (world_of image m put) _ left
    refl (c.in-Ok.ensures.made (world_of image m put))
    ∙ ap (λ ops. Running (At (with_operands ops (frame_view m.here)) frames
    (record after { activations = record (activation_view m.here) { pending = m.here.room.value.pending.items ++ c.in-Ok.place.generation ∷ [] } ∷ activations_of m.waiting.items }) left)) (sym c.in_ok-push_dummy-in-Ok.ensures)
    ∙ ap (λ ns. Running (At (with_operands (stack c.push_dummy.new.operands.items) (frame_view m.here)) frames
    (record after { activations = record (activation_view m.here) { pending = ns } ∷ activations_of m.waiting.items }) left)) (sym (rw c.deref_mut.ensures.value at c.in_ok-push-in-Ok.ensures.items)))

pub returns-in_ok-stop_at-in-Err : goal.returns-in_ok-stop_at-in-Err
returns-in_ok-stop_at-in-Err c = λ image put.
    let m = c.args.machine.now in
    let w = world_of image m put in
    answer_stops place_view c.in-Err.fault c.in_ok-stop_at-in-Err.field-0 m.storage c.make_dummy.new.self c.make_dummy.new.self w
    (dummy_of (description_view c.args.description.now) (value_view c.args.value) w)
    (λ p w. pushes (frame_view m.here) (frames_of m.waiting.items) (AtDummy p) (stack m.here.operands.items) w) (frame_view m.here) (frames_of m.waiting.items) (left_of m)
    c.in_ok-stop_at-in-Err.ensures (c.in-Err.ensures.made w)
