use Rattle.std.proofs.Common.{sym, ap, ◌∙◌}
use Rattle.std.proofs.lemmas.Result.{IfOk-weaker}
use Rattle.pli_machine_step.specs.Machine.{value_returned}
use Rattle.pli_machine_operate.specs.views.OperandView.{stack}
use Rattle.pli_machine_activations.specs.views.MachineView.{leads, frames_of, world_of, left_of}
use Rattle.pli_machine_activations.proofs.leaving.return_value.Goals as goal

pub returns-in-None : goal.returns-in-None
returns-in-None c =
    let m = c.args.machine.now in
    IfOk-weaker c.return_newest.result _ _
    (λ s does u image put.
    ap (λ ops. leads (value_returned c.args.outward (stack ops) (frames_of m.waiting.items) (world_of image m put)) (left_of m)) (sym c.in-None.ensures.left)
    ∙ does u image put)
    c.return_newest.ensures
