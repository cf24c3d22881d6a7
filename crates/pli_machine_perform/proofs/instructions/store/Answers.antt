use Rattle.std.proofs.Common.{sym, ap, ◌∙◌, w64, SFits, rules}
use Rattle.std.proofs.lemmas.Int.{to_z-of_z}
use Rattle.std.proofs.lemmas.Result.{IfOk-weaker}
use Rattle.pli_machine_step.specs.Machine.{kept, with_operands}
use Rattle.pli_machine_operate.specs.views.OperandView.{stack}
use Rattle.pli_machine_activations.specs.views.MachineView.{leads, frame_view, frames_of, world_of, left_of}
use Rattle.pli_machine_perform.proofs.instructions.store.Goals as goal

pub returns-in-Some : goal.returns-in-Some
returns-in-Some c =
    let m = c.args.machine.now in
    let number : SFits w64 c.in-Some.number = search rules in
    IfOk-weaker c.store_value.result _ _
    (λ s moves u image put. ap (λ ops. leads (kept ops (frame_view m.here) (frames_of m.waiting.items) (world_of image m put)) (left_of m)) c.in-Some.ensures.newest ∙ moves image put)
    (rw (to_z-of_z w64 c.in-Some.number number) at c.store_value.ensures)

pub returns-in-None : goal.returns-in-None
returns-in-None c =
    let m = c.args.machine.now in
    IfOk-weaker c.store_newest.result _ _
    (λ s does u image put.
    ap (λ ops. leads (kept (stack ops) (with_operands (stack ops) (frame_view m.here)) (frames_of m.waiting.items) (world_of image m put)) (left_of m)) (sym c.in-None.ensures.left)
    ∙ does u image put)
    c.store_newest.ensures
