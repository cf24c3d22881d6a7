use Rattle.std.proofs.Common.{map, sym, ◌∙◌}
use Rattle.std.proofs.lemmas.Result.{IfOk-weaker}
use Rattle.pli_store.specs.views.StorageView.{place_view}
use Rattle.pli_code.specs.CodeTables.{block_looked_up}
use Rattle.pli_code.specs.views.CodeView.{code_view, block_view}
use Rattle.pli_machine_operate.specs.views.OperandView.{stack}
use Rattle.pli_machine_activations.specs.views.MachineView.{frame_view, frames_of, world_of, left_of}
use Rattle.pli_machine_activations.proofs.EnteredBlocks.{called_external}
use Rattle.pli_machine_activations.proofs.calling.call_external_with.Goals as goal

pub returns : goal.returns
returns c =
    let m = c.args.machine.now in
    let b = block_looked_up (code_view c.args.ready.now.code.now) (block_view c.args.block.now) in
    IfOk-weaker c.call_block.result _ _
    (λ stop moves image put.
    called_external c.args.unit c.args.arguments b (frame_view m.here) (frames_of m.waiting.items) (world_of image m put) (left_of m)
    (map place_view c.in-Some.slots.items) (stack c.pop_places.new.operands.items)
    (sym c.is_some.ensures ∙ c.if-is_some.false) (rw c.in-Some.is at c.in_ok-slots-2.ensures) (sym c.is_callable.ensures ∙ c.if-not-is_callable.false)
    ∙ moves image m.here.room.value.pending.items
    (record { given = rw (c.deref.ensures.value, c.deref_mut.ensures.value) at c.in_ok-hand_over.ensures.handed; others = rw (c.deref.ensures.value, c.deref_mut.ensures.value) at c.in_ok-hand_over.ensures.others }) put)
    (rw c.deref_mut.ensures.value at c.call_block.ensures)
