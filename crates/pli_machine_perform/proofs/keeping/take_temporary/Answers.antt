use Rattle.std.proofs.Common.{Some, sym, ap, ◌∙◌}
use Rattle.std.specs.Prelude.{option_map}
use Rattle.pli_machine_step.specs.Machine.{Goes, taken, with_operands}
use Rattle.pli_value.specs.Value.{value_view}
use Rattle.pli_machine_activations.specs.views.MachineView.{leads, frame_view, frames_of, world_of, left_of}
use Rattle.pli_machine_activations.proofs.FoundInTables.{found}
use Rattle.pli_machine_perform.proofs.keeping.take_temporary.Goals as goal

pub returns : goal.returns
returns c = λ u image put.
    let m = c.args.machine.now in
    let arm = c.in-Some-Some in
    let h = arm.ensures.lookup in
    ap (λ o. leads (taken o (frame_view m.here) (frames_of m.waiting.items) (world_of image m put)) (left_of m))
    (found (option_map value_view) m.here.room.value.temporaries.items c.deref.result.now (rw c.deref-room.ensures at c.deref.ensures.value) c.args.number arm.field-0.now h.3.0 h.1
    ∙ ap (λ o. Some (option_map value_view o)) arm.field-0-is ∙ ap (λ v. Some (Some v)) (sym c.in_ok-copy-in-Some-Some.ensures))
    ∙ ap (λ ops. leads (Goes (with_operands ops (frame_view m.here)) (frames_of m.waiting.items) (world_of image m put)) (left_of m)) (sym c.in_ok-push.ensures)
