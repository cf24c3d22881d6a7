use Rattle.std.proofs.Common.{ap, ◌∙◌}
use Rattle.std.proofs.lemmas.Result.{IfOk-weaker}
use Rattle.pli_machine_step.specs.Machine.{called_with}
use Rattle.pli_code.specs.CodeTables.{block_looked_up}
use Rattle.pli_code.specs.views.CodeView.{code_view, block_view}
use Rattle.pli_machine_activations.specs.views.MachineView.{leads, frame_view, frames_of, world_of, left_of}
use Rattle.pli_machine_activations.proofs.calling.call_with.Goals as goal

pub returns-in_default : goal.returns-in_default
returns-in_default c = λ image put.
    let m = c.args.machine.now in
    let b = block_looked_up (code_view c.args.ready.now.code.now) (block_view c.args.block.now) in
    ap (λ off. leads (called_with m.here.unit c.args.number b c.args.arguments off (frame_view m.here) (frames_of m.waiting.items) (world_of image m put)) (left_of m))
    (rw c.in_default.is at c.in_ok-slots-2.ensures)

pub returns : goal.returns
returns c =
    let m = c.args.machine.now in
    let b = block_looked_up (code_view c.args.ready.now.code.now) (block_view c.args.block.now) in
    IfOk-weaker c.call_at.result _ _
    (λ stop moves image put.
    ap (λ off. leads (called_with m.here.unit c.args.number b c.args.arguments off (frame_view m.here) (frames_of m.waiting.items) (world_of image m put)) (left_of m))
    (rw c.in-Some.is at c.in_ok-slots-2.ensures)
    ∙ moves image m.here.room.value.pending.items
    (record { given = rw (c.deref.ensures.value, c.deref_mut.ensures.value) at c.in_ok-hand_over.ensures.handed; others = rw (c.deref.ensures.value, c.deref_mut.ensures.value) at c.in_ok-hand_over.ensures.others }) put)
    (rw c.deref_mut.ensures.value at c.call_at.ensures)
