use Rattle.std.proofs.Common.{◌∷◌, refl, sym, ap, ◌∙◌}
use Rattle.pli_world.specs.Storage.{without}
use Rattle.pli_world.specs.World.{cleared}
use Rattle.pli_store.specs.views.StorageView.{storage_view}
use Rattle.pli_machine_step.specs.Machine.{counted_jump}
use Rattle.pli_machine_activations.specs.views.MachineView.{leads, after, activation_view, activations_of, frame_view, frames_of, world_of, left_of}
use Rattle.pli_machine_operate.specs.views.OperandView.{stack}
use Rattle.pli_machine_activations.proofs.EndLemmas.{same_world}
use Rattle.pli_machine_perform.proofs.landing.arrive.Goals as goal

pub returns : goal.returns
unfolding cleared
returns c = λ image put.
    let m = c.args.machine.now in
    let w = cleared (world_of image m put) in
    let frames = frames_of m.waiting.items in
    let left = left_of m in
    let jumps = rw c.deref_mut-room.ensures.value at c.count_jump.ensures in
    ap (λ ops. leads (counted_jump c.args.target (stack ops) (frame_view m.here) frames w) left) (sym c.clear-2.ensures.items)
    ∙ jumps.moves frames w left refl
    ∙ ap (λ v. after left c.count_jump.result (frame_view c.count_jump.new.here) frames v)
    (same_world (world_of image m put) _ _ _ _ _ _
    (sym (c.end.ensures.storage ∙ ap (λ ns. without ns (storage_view m.storage)) (rw c.deref_mut-room.ensures.value at c.deref.ensures.value)))
    (sym c.end.ensures.made)
    (ap (λ ns. record (activation_view m.here) { pending = ns } ∷ activations_of m.waiting.items) (sym c.clear.ensures.items)
    ∙ ap (λ a. a ∷ activations_of m.waiting.items) (sym jumps.same)))
