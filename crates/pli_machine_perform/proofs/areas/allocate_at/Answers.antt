use Rattle.std.proofs.Common.{Some, List, ◌∷◌, map, sym, ap, ◌∙◌}
use Rattle.std.proofs.lemmas.Result.{IfOk-weaker}
use Rattle.pli_code.specs.Modules.{program_of}
use Rattle.pli_map.specs.views.DescriptionView.{description_view}
use Rattle.pli_value.specs.Value.{Located}
use Rattle.pli_value.specs.declared.locator.Locator.{Locator}
use Rattle.pli_type_tree.specs.Templates.{variable_of}
use Rattle.pli_type_tree.specs.views.TemplateView.{initial_view}
use Rattle.pli_world.specs.Locating.{block_made}
use Rattle.pli_store.specs.views.StorageView.{with_storage}
use Rattle.pli_world.specs.Storage.{Place}
use Rattle.pli_machine_step.specs.Machine.{Operand, OfValue, At, again_at, allocates_in, handled, pushes, used_up, with_operands}
use Rattle.pli_machine_operate.specs.views.OperandView.{stack, taken_operand}
use Rattle.pli_machine_activations.specs.views.MachineView.{Running, leads, frame_view, frames_of, world_of, left_of}
use Rattle.pli_machine_activations.specs.answers.Used.{after_use}
use Rattle.pli_machine_activations.specs.views.ImageView.{image_of}
use Rattle.pli_machine_perform.specs.views.HaltView.{halted, to_do_again}
use Rattle.pli_machine_perform.proofs.HaltLemmas.{refused_halts, same_with}
use Rattle.pli_machine_perform.proofs.UsedMoves.{none_off, off_taken, used_yields, used_refused, used_output, used_column}
use Rattle.pli_machine_perform.proofs.areas.allocate_at.Goals as goal

pub returns-in_default : goal.returns-in_default
returns-in_default c = λ u put.
    let m = c.args.machine.now in
    let image = image_of c.args.unit.now.loaded.now in
    let p = program_of image.linked in
    let here = frame_view m.here in
    let frames = frames_of m.waiting.items in
    let w = world_of image m put in
    let left = left_of m in
    let v = variable_of (record { description = description_view c.args.description.now; initial = map initial_view c.args.scalars.now }) in
    let after = c.args.target in
    ap (λ m. leads m left)
    (none_off (stack m.here.operands.items) w
    (λ (x : Operand) (area : Place) (ops : List Operand). handled p w (again_at after ops here) frames (used_up x (block_made area v w)) (λ v w. pushes here frames (OfValue v) ops w))
    c.in_default.ensures)

pub returns-in_ok-push-in-Ok : goal.returns-in_ok-push-in-Ok
returns-in_ok-push-in-Ok c = λ u put.
    let m = c.args.machine.now in
    let image = image_of c.args.unit.now.loaded.now in
    let p = program_of image.linked in
    let here = frame_view m.here in
    let frames = frames_of m.waiting.items in
    let w = world_of image m put in
    let left = left_of m in
    let v = variable_of (record { description = description_view c.args.description.now; initial = map initial_view c.args.scalars.now }) in
    let after = c.args.target in
    let t = c.in-Some.area in
    let x = taken_operand t in
    let ops = stack c.take_place.new.operands.items in
    let new = c.use_up.new.machine in
    let used = c.use_up.ensures in
    let value = OfValue (Located c.in-Ok.locator) in
    let later = with_storage c.make_block-made.new.storage w in
    ap (λ all. leads (allocates_in p v after all here frames w) left) c.in-Some.ensures
    ∙ ap (λ m. leads m left)
    (off_taken t ops w
    (λ (x : Operand) (area : Place) (ops : List Operand). handled p w (again_at after ops here) frames (used_up x (block_made area v w)) (λ v w. pushes here frames (OfValue v) ops w)))
    ∙ ap (λ q. leads (handled p w (again_at after ops here) frames (used_up x (block_made q v w)) (λ v w. pushes here frames (OfValue v) ops w)) left) (sym c.place.ensures)
    ∙ ap (λ a. leads (handled p w (again_at after ops here) frames a (λ v w. pushes here frames (OfValue v) ops w)) left)
    (used_yields x (Located c.in-Ok.locator) later _ (rw c.in-Ok.is at (c.make_block-made.ensures.answer w)))
    ∙ ap (λ f. Running (At (with_operands (value ∷ f.operands) f) frames (after_use x later) left)) (sym used.here)
    ∙ ap (λ fs. Running (At (with_operands (value ∷ stack new.here.operands.items) (frame_view new.here)) fs (after_use x later) left)) (sym used.frames)
    ∙ ap (λ u. Running (At (with_operands (value ∷ stack new.here.operands.items) (frame_view new.here)) (frames_of new.waiting.items) u left)) (sym (used.world image put))
    ∙ ap (λ l. Running (At (with_operands (value ∷ stack new.here.operands.items) (frame_view new.here)) (frames_of new.waiting.items) (world_of image new put) l)) (sym used.left)
    ∙ ap (λ ops. Running (At (with_operands ops (frame_view new.here)) (frames_of new.waiting.items) (world_of image new put) (left_of new))) (sym c.in_ok-push-in-Ok.ensures)

pub returns-in_ok-halt-in-Err : goal.returns-in_ok-halt-in-Err
returns-in_ok-halt-in-Err c =
    IfOk-weaker c.settle_again.result _ _
    (λ s settles u put.
    let m = c.args.machine.now in
    let image = image_of c.args.unit.now.loaded.now in
    let p = program_of image.linked in
    let here = frame_view m.here in
    let frames = frames_of m.waiting.items in
    let w = world_of image m put in
    let left = left_of m in
    let v = variable_of (record { description = description_view c.args.description.now; initial = map initial_view c.args.scalars.now }) in
    let after = c.args.target in
    let t = c.in-Some.area in
    let x = taken_operand t in
    let ops = stack c.take_place.new.operands.items in
    let new = c.use_up.new.machine in
    let used = c.use_up.ensures in
    let before = m.storage in
    let later = c.make_block-made.new.storage in
    let wait = to_do_again after in
    let h = c.in_ok-halt-in-Err.halt in
    ap (λ all. leads (allocates_in p v after all here frames w) left) c.in-Some.ensures
    ∙ ap (λ m. leads m left)
    (off_taken t ops w
    (λ (x : Operand) (area : Place) (ops : List Operand). handled p w (again_at after ops here) frames (used_up x (block_made area v w)) (λ v w. pushes here frames (OfValue v) ops w)))
    ∙ ap (λ q. leads (handled p w (again_at after ops here) frames (used_up x (block_made q v w)) (λ v w. pushes here frames (OfValue v) ops w)) left) (sym c.place.ensures)
    ∙ refused_halts p wait (with_operands ops here) frames left {T = Locator} (λ l. Located l) c.in-Err.fault h w (after_use x (with_storage before w)) (after_use x (with_storage later w))
    _ (λ v w. pushes here frames (OfValue v) ops w) c.in_ok-halt-in-Err.ensures (used_output x w) (used_column x w)
    (used_refused x (λ l. Located l) c.in-Err.fault (with_storage before w) (with_storage later w) _ (rw c.in-Err.is at (c.make_block-made.ensures.answer w)))
    ∙ ap (λ u. halted p wait left (Some h) (with_operands ops here) frames (after_use x u)) (same_with before later w (rw c.in-Err.is at c.make_block-made.ensures.err))
    ∙ ap (λ f. halted p wait left (Some h) f frames (after_use x (with_storage later w))) (sym used.here)
    ∙ ap (λ fs. halted p wait left (Some h) (frame_view new.here) fs (after_use x (with_storage later w))) (sym used.frames)
    ∙ ap (λ u. halted p wait left (Some h) (frame_view new.here) (frames_of new.waiting.items) u) (sym (used.world image put))
    ∙ ap (λ l. halted p wait l (Some h) (frame_view new.here) (frames_of new.waiting.items) (world_of image new put)) (sym used.left)
    ∙ settles put)
    c.settle_again.ensures
