use Rattle.std.proofs.Common.{sym, ap, ◌∙◌}
use Rattle.std.proofs.lemmas.Result.{IfOk-weaker}
use Rattle.pli_map.specs.views.DescriptionView.{description_view}
use Rattle.pli_machine_step.specs.Machine.{with_operands, dummied}
use Rattle.pli_machine_operate.specs.views.OperandView.{stack}
use Rattle.pli_machine_activations.specs.views.MachineView.{leads, frame_view, frames_of, world_of, left_of}
use Rattle.pli_machine_activations.proofs.dummies.make_dummy.Goals as goal

pub returns-in-None : goal.returns-in-None
returns-in-None c =
    let m = c.args.machine.now in
    IfOk-weaker c.dummy_of_newest.result _ _
    (λ s does u image put.
    ap (λ ops. leads (dummied (description_view c.args.description.now) (stack ops) (with_operands (stack ops) (frame_view m.here)) (frames_of m.waiting.items) (world_of image m put)) (left_of m))
    (sym c.in-None.ensures.left)
    ∙ does u image put)
    c.dummy_of_newest.ensures
