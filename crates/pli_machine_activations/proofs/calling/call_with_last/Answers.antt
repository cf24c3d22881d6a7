use Rattle.std.proofs.Common.{◌-◌, ◌∷◌, [], ◌++◌, ap, ◌∙◌, arith}
use Rattle.std.proofs.lemmas.Result.{IfOk-weaker}
use Rattle.pli_store.specs.views.StorageView.{place_view}
use Rattle.pli_machine_step.specs.Machine.{AtDummy, called_with, with_operands}
use Rattle.pli_code.specs.CodeTables.{block_looked_up}
use Rattle.pli_code.specs.views.CodeView.{code_view, block_view}
use Rattle.pli_machine_operate.specs.views.OperandView.{stack}
use Rattle.pli_machine_activations.specs.answers.Handing.{with_dummy}
use Rattle.pli_machine_activations.specs.views.MachineView.{leads, frame_view, frames_of, world_of, left_of}
use Rattle.pli_machine_activations.proofs.GivenPlaces.{one_last, none_last, last_given}
use Rattle.pli_machine_activations.proofs.calling.call_with_last.Goals as goal

pub hand_with_last-requires-clause-given : goal.hand_with_last-requires-clause-given
hand_with_last-requires-clause-given c =
    rw c.deref.ensures.value
    (last_given c.in-Some.taken.items c.push_reserved.new.self.items c.args.last
    (c.push_reserved.ensures.items ∙ ap (λ ps. ps ++ c.args.last ∷ []) c.in_ok-slots-2.ensures.items))

pub returns-in_default : goal.returns-in_default
returns-in_default c = λ image put.
    let m = c.args.machine.now in
    let b = block_looked_up (code_view c.args.ready.now.code.now) (block_view c.args.block.now) in
    let ops = stack m.here.operands.items in
    ap (λ off. leads (called_with m.here.unit c.args.number b c.args.arguments off (with_operands (AtDummy (place_view c.args.last) ∷ ops) (frame_view m.here)) (frames_of m.waiting.items) (with_dummy c.args.last.generation (world_of image m put))) (left_of m))
    (none_last c.args.arguments (c.args.arguments - 1) (place_view c.args.last) ops (omega arith) (rw c.in_default.is at c.in_ok-taken.ensures))

pub returns : goal.returns
returns c =
    let m = c.args.machine.now in
    let b = block_looked_up (code_view c.args.ready.now.code.now) (block_view c.args.block.now) in
    let ops = stack m.here.operands.items in
    IfOk-weaker c.call_at.result _ _
    (λ stop moves image put.
    ap (λ off. leads (called_with m.here.unit c.args.number b c.args.arguments off (with_operands (AtDummy (place_view c.args.last) ∷ ops) (frame_view m.here)) (frames_of m.waiting.items) (with_dummy c.args.last.generation (world_of image m put))) (left_of m))
    (one_last c.args.arguments (c.args.arguments - 1) c.in-Some.taken.items c.push_reserved.new.self.items c.args.last ops (stack c.pop_places.new.operands.items) (omega arith)
    (rw c.in-Some.is at c.in_ok-taken.ensures) (c.push_reserved.ensures.items ∙ ap (λ ps. ps ++ c.args.last ∷ []) c.in_ok-slots-2.ensures.items))
    ∙ moves image (m.here.room.value.pending.items ++ c.args.last.generation ∷ [])
    (record { given = rw (c.deref.ensures.value, c.deref_mut.ensures.value) at c.in_ok-hand_with_last.ensures.handed; others = rw (c.deref.ensures.value, c.deref_mut.ensures.value) at c.in_ok-hand_with_last.ensures.others }) put)
    (rw c.deref_mut.ensures.value at c.call_at.ensures)
