use Rattle.std.proofs.Common.{ap, ◌∙◌}
use Rattle.std.proofs.lemmas.Result.{IfOk-weaker}
use Rattle.pli_machine_step.specs.Machine.{kept}
use Rattle.pli_machine_activations.specs.views.MachineView.{leads, frame_view, frames_of, world_of, left_of}
use Rattle.pli_machine_perform.proofs.instructions.store_newest.Goals as goal

pub returns : goal.returns
returns c =
    let m = c.args.machine.now in
    let newest = rw c.in-Some.is at c.in_ok-value.ensures in
    IfOk-weaker c.store_value.result _ _
    (λ s moves u image put. ap (λ ops. leads (kept ops (frame_view m.here) (frames_of m.waiting.items) (world_of image m put)) (left_of m)) newest ∙ moves image put)
    c.store_value.ensures
