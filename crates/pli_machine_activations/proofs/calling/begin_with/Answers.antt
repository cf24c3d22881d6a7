use Rattle.std.proofs.Common.{Some, ◌∷◌, map, refl, sym, ap, ◌∙◌, arith}
use Rattle.std.proofs.lemmas.Result.{IfOk-weaker}
use Rattle.pli_store.specs.views.StorageView.{place_view}
use Rattle.pli_machine_step.specs.Machine.{enters}
use Rattle.pli_code.specs.CodeTables.{block_looked_up}
use Rattle.pli_code.specs.views.CodeView.{code_view, block_view}
use Rattle.pli_machine_activations.specs.views.MachineView.{leads, frame_view, frames_of, world_of, left_of}
use Rattle.pli_machine_activations.proofs.EnteredBlocks.{begins_other, begins_fault, begins_full, begins_enter, has_room, has_none}
use Rattle.pli_machine_activations.proofs.GivenPlaces.{none_given}
use Rattle.pli_machine_activations.proofs.calling.begin_with.Goals as goal

pub returns-then-not-is_enterable : goal.returns-then-not-is_enterable
returns-then-not-is_enterable c = λ image put.
    let m = c.args.machine.now in
    let b = block_looked_up (code_view c.args.ready.now.code.now) (block_view c.args.block.now) in
    begins_other c.args.number b (frame_view m.here) (frames_of m.waiting.items) (world_of image m put) (left_of m) (Some b) refl
    (sym c.is_enterable.ensures ∙ c.if-not-is_enterable.true)

pub returns-in_default : goal.returns-in_default
returns-in_default c = λ image put.
    let m = c.args.machine.now in
    let b = block_looked_up (code_view c.args.ready.now.code.now) (block_view c.args.block.now) in
    begins_fault c.args.number b (frame_view m.here) (frames_of m.waiting.items) (world_of image m put) (left_of m) (Some b) refl
    (sym c.is_enterable.ensures ∙ c.if-not-is_enterable.false) (c.link_of.ensures image put ∙ c.in_default.is)

pub returns-then-len-ge-WAITING_LIMIT : goal.returns-then-len-ge-WAITING_LIMIT
returns-then-len-ge-WAITING_LIMIT c = λ image put.
    let m = c.args.machine.now in
    let b = block_looked_up (code_view c.args.ready.now.code.now) (block_view c.args.block.now) in
    begins_full c.args.number b (frame_view m.here) (frames_of m.waiting.items) (world_of image m put) (left_of m) (Some b) c.in-Some.link refl
    (sym c.is_enterable.ensures ∙ c.if-not-is_enterable.false) (c.link_of.ensures image put ∙ c.in-Some.is) (has_none image m put (omega arith))

pub returns : goal.returns
returns c =
    let m = c.args.machine.now in
    let b = block_looked_up (code_view c.args.ready.now.code.now) (block_view c.args.block.now) in
    IfOk-weaker c.enter.result _ _
    (λ stop moves image put.
    begins_enter c.args.number b (frame_view m.here) (frames_of m.waiting.items) (world_of image m put) (left_of m) (Some b) c.in-Some.link refl
    (sym c.is_enterable.ensures ∙ c.if-not-is_enterable.false) (c.link_of.ensures image put ∙ c.in-Some.is) (has_room image m put (omega arith))
    ∙ ap (λ ps. leads (enters m.here.unit c.args.number b c.in-Some.link (map place_view ps) (frame_view m.here ∷ frames_of m.waiting.items) (world_of image m put)) (left_of m))
    (sym c.in_ok-lists.ensures.slots)
    ∙ moves image m.here.room.value.pending.items
    (rw (c.in_ok-lists.ensures.slots, c.in_ok-lists.ensures.owned) (none_given m.here.room.value.pending.items)) put)
    c.enter.ensures
