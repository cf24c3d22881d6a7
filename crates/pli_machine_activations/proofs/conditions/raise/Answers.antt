use Rattle.std.proofs.Common.{sym, ap, ◌∙◌}
use Rattle.std.specs.Prelude.{option_map}
use Rattle.std.proofs.lemmas.Result.{IfOk-weaker}
use Rattle.pli_code.specs.Modules.{program_of}
use Rattle.pli_machine_step.specs.Machine.{raises}
use Rattle.pli_world.specs.World.{error_at}
use Rattle.pli_machine_activations.specs.views.HandlerView.{handler_view}
use Rattle.pli_machine_activations.specs.views.ImageView.{image_of}
use Rattle.pli_machine_activations.specs.views.MachineView.{leads, left_by_end, frame_view, frames_of, world_of, left_of, Finished}
use Rattle.pli_machine_activations.proofs.conditions.raise.Goals as goal

pub returns-in-Some : goal.returns-in-Some
returns-in-Some c =
    let m = c.args.machine.now in
    let image = image_of c.args.loaded.now in
    IfOk-weaker c.run_on_unit.result _ _
    (λ stop moves put.
    ap
    (λ h. leads (raises (program_of image.linked) c.args.condition h (record (frame_view m.here) { again = c.args.again }) (frames_of m.waiting.items) (world_of image m put)) (left_of m))
    (c.find_handler.ensures image put ∙ ap (option_map handler_view) c.in-Some.is)
    ∙ moves image put)
    c.run_on_unit.ensures

pub returns-in-None : goal.returns-in-None
returns-in-None c = λ put.
    let m = c.args.machine.now in
    let image = image_of c.args.loaded.now in
    let w = world_of image m put in
    ap
    (λ h. leads (raises (program_of image.linked) c.args.condition h (record (frame_view m.here) { again = c.args.again }) (frames_of m.waiting.items) w) (left_of m))
    (c.find_handler.ensures image put ∙ ap (option_map handler_view) c.in-None.is)
    ∙ ap (λ e. Finished (left_by_end (error_at e w) w)) (sym c.error_of.ensures)
