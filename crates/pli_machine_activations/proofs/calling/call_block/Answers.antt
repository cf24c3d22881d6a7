use Rattle.std.proofs.Common.{◌+◌, ◌-◌, map, ◌∙◌, arith, refl}
use Rattle.std.proofs.lemmas.Result.{IfOk-weaker}
use Rattle.pli_store.specs.views.StorageView.{place_view}
use Rattle.pli_code.specs.CodeTables.{block_looked_up}
use Rattle.pli_code.specs.views.CodeView.{code_view, block_view}
use Rattle.pli_world.specs.World.{error_at}
use Rattle.pli_machine_activations.specs.answers.Handing.{with_pending}
use Rattle.pli_machine_activations.specs.views.MachineView.{frame_view, frames_of, world_of, left_of}
use Rattle.pli_machine_activations.proofs.EnteredBlocks.{calls_full, calls_out, calls_enter, step_more, has_room, has_none}
use Rattle.pli_machine_activations.proofs.calling.call_block.Goals as goal

pub returns-then-len-ge-WAITING_LIMIT : goal.returns-then-len-ge-WAITING_LIMIT
unfolding error_at
returns-then-len-ge-WAITING_LIMIT c = λ image pending handed put.
    let m = c.args.machine.now in
    calls_full c.args.unit c.args.number (block_looked_up (code_view c.args.ready.now.code.now) (block_view c.args.block.now)) (map place_view c.args.lists.slots.items)
    (record (frame_view m.here) { again = c.args.again }) (frames_of m.waiting.items) (with_pending pending (world_of image m put)) (left_of m) c.args.link (has_none image m put (omega arith))

pub returns-then-machine : goal.returns-then-machine
returns-then-machine c = λ image pending handed put.
    let m = c.args.machine.now in
    calls_out c.args.unit c.args.number (block_looked_up (code_view c.args.ready.now.code.now) (block_view c.args.block.now)) (map place_view c.args.lists.slots.items)
    (record (frame_view m.here) { again = c.args.again }) (frames_of m.waiting.items) (with_pending pending (world_of image m put)) (left_of m) c.args.link (has_room image m put (omega arith)) (omega arith)

pub returns : goal.returns
returns c =
    let m = c.args.machine.now in
    IfOk-weaker c.enter.result _ _
    (λ stop moves image pending handed put.
    calls_enter c.args.unit c.args.number (block_looked_up (code_view c.args.ready.now.code.now) (block_view c.args.block.now)) (map place_view c.args.lists.slots.items)
    (record (frame_view m.here) { again = c.args.again }) (frames_of m.waiting.items) (with_pending pending (world_of image m put)) (left_of m) c.args.link (m.limit - (m.steps + 1))
    (record (with_pending pending (world_of image m put)) { steps = m.steps + 1 })
    (has_room image m put (omega arith)) (omega arith) (step_more (with_pending pending (world_of image m put)) m.steps refl)
    ∙ moves image pending handed put)
    c.enter.ensures
