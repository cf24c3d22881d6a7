use Rattle.std.proofs.Common.{◌≡◌, List, refl, ap, ◌∙◌}
use Rattle.std.proofs.lemmas.Result.{IfOk-weaker}
use Rattle.pli_base.specs.declared.statement.Condition.{Condition}
use Rattle.pli_base.specs.declared.statement.Condition.TheVariants.{FixedOverflow, ZeroDivide, Area}
use Rattle.pli_code.specs.Modules.{program_of}
use Rattle.pli_program.specs.Program.{Program}
use Rattle.pli_world.specs.Conditions.{handler, signalled}
use Rattle.pli_world.specs.World.{World}
use Rattle.pli_machine_step.specs.Machine.{Frame, Goes, handled, raises}
use Rattle.pli_machine_activations.specs.views.ImageView.{image_of}
use Rattle.pli_machine_activations.specs.views.MachineView.{leads, frame_view, frames_of, world_of, left_of}
use Rattle.pli_machine_perform.proofs.conditions.signal.Goals as goal

-- a condition that is signalled is raised
signal_raises : (p : Program) (c : Condition) (here : Frame) (frames : List Frame) (w : World)
    → handled p w here frames (signalled c w) (λ _ w. Goes here frames w) ≡ raises p c (handler c w.activations) here frames w
signal_raises p FixedOverflow here frames w = refl
signal_raises p ZeroDivide here frames w = refl
signal_raises p Area here frames w = refl

pub returns : goal.returns
returns c =
    let m = c.args.machine.now in
    let image = image_of c.args.unit.now.loaded.now in
    IfOk-weaker c.raise.result _ _
    (λ stop moves u put.
    ap (λ move. leads move (left_of m)) (signal_raises (program_of image.linked) c.args.condition (frame_view m.here) (frames_of m.waiting.items) (world_of image m put))
    ∙ moves put)
    c.raise.ensures
