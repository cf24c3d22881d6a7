use Rattle.std.proofs.Common.{None, Some, map, refl, sym, ap, ◌∙◌}
use Rattle.std.proofs.lemmas.Result.{IfOk-weaker}
use Rattle.pli_store.specs.views.StorageView.{place_view}
use Rattle.pli_machine_step.specs.Machine.{calls, runs_block}
use Rattle.pli_code.specs.CodeTables.{block_looked_up}
use Rattle.pli_code.specs.views.CodeView.{code_view, block_view}
use Rattle.pli_machine_activations.specs.declared.machine.Stop.TheVariants as stop
use Rattle.pli_machine_activations.specs.views.HandlerView.{handler_view}
use Rattle.pli_machine_activations.specs.views.MachineView.{leads, frame_view, frames_of, world_of, left_of}
use Rattle.pli_machine_activations.proofs.EnteredBlocks.{block_moves, block_found}
use Rattle.pli_machine_activations.proofs.GivenPlaces.{none_given}
use Rattle.pli_machine_activations.proofs.conditions.run_block.Goals as goal

pub returns-in_ok-lists-in-Some : goal.returns-in_ok-lists-in-Some
returns-in_ok-lists-in-Some c =
    let m = c.args.machine.now in
    let code = code_view c.args.ready.now.code.now in
    let h = c.args.handler in
    let b = block_looked_up code (block_view c.in-Some.block.now) in
    block_found (λ o here frames w. runs_block (handler_view h) o (record here { again = c.args.again }) frames w) code h.block (block_view c.in-Some.block.now)
    m c.call_block.new.machine c.call_block.result (rw c.in-Some.is at c.block_at.ensures)
    (IfOk-weaker c.call_block.result _ _
    (λ stop moves image put.
    ap (λ ps. leads (calls h.unit h.block b (Some h.link) (map place_view ps) (record (frame_view m.here) { again = c.args.again }) (frames_of m.waiting.items) (world_of image m put)) (left_of m))
    (sym c.in_ok-lists-in-Some.ensures.slots)
    ∙ moves image m.here.room.value.pending.items
    (rw (c.in_ok-lists-in-Some.ensures.slots, c.in_ok-lists-in-Some.ensures.owned) (none_given m.here.room.value.pending.items)) put)
    c.call_block.ensures)

pub returns-in-None : goal.returns-in-None
returns-in-None c = λ image.
    let m = c.args.machine.now in
    block_moves image (λ o here frames w. runs_block (handler_view c.args.handler) o (record here { again = c.args.again }) frames w)
    (code_view c.args.ready.now.code.now) c.args.handler.block None m m (Some stop.Fault) (rw c.in-None.is at c.block_at.ensures) (λ put. refl)
