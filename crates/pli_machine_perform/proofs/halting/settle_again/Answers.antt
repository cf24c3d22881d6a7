use Rattle.std.proofs.Common.{Some, ap, ◌∙◌}
use Rattle.std.proofs.lemmas.Result.{IfOk-weaker}
use Rattle.pli_code.specs.Modules.{program_of}
use Rattle.pli_machine_activations.specs.views.ImageView.{image_of}
use Rattle.pli_machine_activations.specs.views.MachineView.{frame_view, frames_of, world_of, left_of}
use Rattle.pli_machine_perform.specs.views.HaltView.{halted, to_do_again}
use Rattle.pli_machine_perform.proofs.halting.settle_again.Goals as goal

pub returns-in_default : goal.returns-in_default
returns-in_default c = λ put.
    let m = c.args.machine.now in
    let image = image_of c.args.loaded.now in
    ap (λ h. halted (program_of image.linked) (to_do_again c.args.instruction) (left_of m) h (frame_view m.here) (frames_of m.waiting.items) (world_of image m put)) c.in_default.is

pub returns-in-Stops : goal.returns-in-Stops
returns-in-Stops c = λ put.
    let m = c.args.machine.now in
    let image = image_of c.args.loaded.now in
    ap (λ h. halted (program_of image.linked) (to_do_again c.args.instruction) (left_of m) h (frame_view m.here) (frames_of m.waiting.items) (world_of image m put))
    (c.in-Some.is ∙ ap Some c.in-Stops.is)

pub returns-in-Raises : goal.returns-in-Raises
returns-in-Raises c =
    let m = c.args.machine.now in
    let image = image_of c.args.loaded.now in
    IfOk-weaker c.raise.result _ _
    (λ stop moves put.
    ap (λ h. halted (program_of image.linked) (to_do_again c.args.instruction) (left_of m) h (frame_view m.here) (frames_of m.waiting.items) (world_of image m put))
    (c.in-Some.is ∙ ap Some c.in-Raises.is)
    ∙ moves put)
    c.raise.ensures
