use Rattle.std.proofs.Common.{◌∷◌, ◌++◌, map, sym, ap, subst, ◌∙◌}
use Rattle.pli_world.specs.World.{made_all}
use Rattle.pli_store.specs.views.StorageView.{place_view}
use Rattle.pli_code.specs.CodeTables.{block_looked_up, variables_at}
use Rattle.pli_code.specs.views.CodeView.{code_view, block_view}
use Rattle.pli_machine_activations.specs.answers.Handing.{with_pending}
use Rattle.pli_machine_activations.specs.answers.Making.{EndsAs}
use Rattle.pli_machine_activations.specs.views.MachineView.{frame_view, frames_of, world_of, left_of}
use Rattle.pli_machine_activations.proofs.EnteredBlocks.{enters_goes, enters_stops}
use Rattle.pli_machine_activations.proofs.entering.enter.Goals as goal

pub returns-in-Ok : goal.returns-in-Ok
returns-in-Ok c = λ image pending handed put.
    let code = code_view c.args.ready.now.code.now in
    let b = block_looked_up code (block_view c.args.block.now) in
    let m = c.args.machine.now in
    let begun = c.in_ok-begin_block.ensures image put pending handed in
    let same = c.in-Ok.ensures.same in
    let mid = world_of image c.begin_block.new.machine put in
    enters_goes c.args.unit c.args.number b c.args.link (map place_view c.args.lists.slots.items) (with_pending pending (world_of image m put)) mid begun.world
    (record (frame_view m.here) { again = c.args.again } ∷ frames_of m.waiting.items) (left_of m)
    (frame_view c.make_variables.new.machine.here) (frames_of c.make_variables.new.machine.waiting.items) (world_of image c.make_variables.new.machine put) (left_of c.make_variables.new.machine)
    (ap (λ ns. made_all (variables_at code ns) mid) (sym c.deref.ensures.value) ∙ c.in-Ok.ensures.made image put)
    (same.here ∙ begun.here) (same.frames ∙ begun.frames) (same.left ∙ begun.left)

pub returns-in_ok-stop_at-in-Err : goal.returns-in_ok-stop_at-in-Err
returns-in_ok-stop_at-in-Err c = λ image pending handed put.
    let code = code_view c.args.ready.now.code.now in
    let b = block_looked_up code (block_view c.args.block.now) in
    let m = c.args.machine.now in
    let begun = c.in_ok-begin_block.ensures image put pending handed in
    let mid = world_of image c.begin_block.new.machine put in
    let v = world_of image c.make_variables.new.machine put in
    enters_stops c.args.unit c.args.number b c.args.link (map place_view c.args.lists.slots.items) (with_pending pending (world_of image m put)) mid begun.world
    (record (frame_view m.here) { again = c.args.again } ∷ frames_of m.waiting.items) (left_of m)
    c.in-Err.fault c.in_ok-stop_at-in-Err.field-0 (frame_view c.make_variables.new.machine.here) (frames_of c.make_variables.new.machine.waiting.items) v (left_of c.make_variables.new.machine)
    (subst (λ ns. EndsAs c.in-Err.fault (made_all (variables_at code ns) mid) v) c.deref.ensures.value (c.in-Err.ensures.made image put))
    c.in_ok-stop_at-in-Err.ensures (ap (λ o. put ++ o) c.in-Err.ensures.same.output) c.in-Err.ensures.same.column
