use Rattle.std.proofs.Common.{◌∙◌}
use Rattle.std.proofs.lemmas.Result.{IfOk-weaker}
use Rattle.pli_code.specs.Modules.{program_of}
use Rattle.pli_machine_activations.specs.views.ImageView.{image_of}
use Rattle.pli_machine_activations.specs.views.MachineView.{frame_view, frames_of, world_of, left_of}
use Rattle.pli_machine_perform.proofs.strings.fit_to_place.Goals as goal

pub returns : goal.returns
returns c =
    let m = c.args.machine.now in
    let image = image_of c.args.unit.now.loaded.now in
    IfOk-weaker c.settle.result _ _
    (λ s settles u put.
    c.in_ok-halt.ensures (program_of image.linked) (frame_view m.here) (frames_of m.waiting.items) (world_of image m put) (left_of m) ∙ settles put)
    c.settle.ensures
