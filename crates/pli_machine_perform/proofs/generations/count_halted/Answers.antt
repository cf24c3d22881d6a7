use Rattle.std.proofs.Common.{Some, ◌∷◌, sym, ap, ◌∙◌}
use Rattle.std.proofs.lemmas.Result.{IfOk-weaker}
use Rattle.pli_code.specs.Modules.{program_of}
use Rattle.pli_world.specs.Conditions.{handler}
use Rattle.pli_machine_step.specs.Machine.{OfValue, raises, with_operands}
use Rattle.pli_machine_operate.specs.views.OperandView.{stack}
use Rattle.pli_machine_activations.specs.views.ImageView.{image_of}
use Rattle.pli_machine_activations.specs.views.MachineView.{leads, frame_view, frames_of, world_of, left_of}
use Rattle.pli_machine_perform.specs.views.HaltView.{halted, giving_zero}
use Rattle.pli_machine_perform.proofs.generations.count_halted.Goals as goal

pub returns-in-Stops : goal.returns-in-Stops
returns-in-Stops c = λ put.
    let m = c.args.machine.now in
    let image = image_of c.args.unit.now.loaded.now in
    ap (λ h. halted (program_of image.linked) giving_zero (left_of m) (Some h) (frame_view m.here) (frames_of m.waiting.items) (world_of image m put)) c.in-Stops.is

pub returns-in_ok-push-in-Raises : goal.returns-in_ok-push-in-Raises
returns-in_ok-push-in-Raises c =
    let m = c.args.machine.now in
    let image = image_of c.args.unit.now.loaded.now in
    let p = program_of image.linked in
    let condition = c.in-Raises.condition in
    IfOk-weaker c.raise.result _ _
    (λ stop moves put.
    let w = world_of image m put in
    ap (λ h. halted p giving_zero (left_of m) (Some h) (frame_view m.here) (frames_of m.waiting.items) w) c.in-Raises.is
    ∙ ap (λ ops. leads (raises p condition (handler condition w.activations) (with_operands ops (frame_view m.here)) (frames_of m.waiting.items) w) (left_of m))
    (sym (c.in_ok-push-in-Raises.ensures ∙ ap (λ v. OfValue v ∷ stack m.here.operands.items) c.count_value.ensures))
    ∙ moves put)
    c.raise.ensures
