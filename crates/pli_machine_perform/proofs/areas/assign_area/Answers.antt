use Rattle.std.proofs.Common.{Some, None, List, ◌∷◌, sym, ap, ◌∙◌}
use Rattle.std.proofs.lemmas.Result.{IfOk-weaker}
use Rattle.pli_code.specs.Modules.{program_of}
use Rattle.pli_world.specs.Areas.{assigned}
use Rattle.pli_world.specs.World.{World}
use Rattle.pli_store.specs.views.StorageView.{place_view, with_storage}
use Rattle.pli_world.specs.Storage.{Place}
use Rattle.pli_machine_step.specs.Machine.{Operand, Goes, assigns_area, handled, place_off, used_up, with_operands}
use Rattle.pli_machine_operate.specs.views.OperandView.{stack, taken_operand, taken_place}
use Rattle.pli_machine_activations.specs.views.MachineView.{leads, frame_view, frames_of, world_of, left_of}
use Rattle.pli_machine_activations.specs.answers.Used.{after_use}
use Rattle.pli_machine_activations.specs.views.ImageView.{image_of}
use Rattle.pli_machine_perform.specs.views.HaltView.{as_it_is, halted}
use Rattle.pli_machine_perform.proofs.HaltLemmas.{refused_halts, same_with}
use Rattle.pli_machine_perform.proofs.UsedMoves.{none_off, off_taken, used_yields, used_refused, used_output, used_column, twice_used}
use Rattle.pli_machine_perform.proofs.areas.assign_area.Goals as goal

pub returns-in_default : goal.returns-in_default
returns-in_default c = λ u put.
    let m = c.args.machine.now in
    let image = image_of c.args.unit.now.loaded.now in
    let p = program_of image.linked in
    let here = frame_view m.here in
    let frames = frames_of m.waiting.items in
    let w = world_of image m put in
    let left = left_of m in
    ap (λ m. leads m left)
    (none_off (stack m.here.operands.items) w
    (λ (x : Operand) (source : Place) (ops : List Operand). place_off ops w (λ (y : Operand) (target : Place) (ops : List Operand). handled p w (with_operands ops here) frames (used_up x (used_up y (assigned source target w))) (λ _ w. Goes (with_operands ops here) frames w)))
    c.in_default.ensures)

pub returns-in_default-take_place : goal.returns-in_default-take_place
returns-in_default-take_place c = λ u put.
    let m = c.args.machine.now in
    let image = image_of c.args.unit.now.loaded.now in
    let p = program_of image.linked in
    let here = frame_view m.here in
    let frames = frames_of m.waiting.items in
    let w = world_of image m put in
    let left = left_of m in
    let s = c.in-Some.source in
    let ops = stack c.take_place.new.operands.items in
    ap (λ all. leads (assigns_area p all here frames w) left) c.in-Some.ensures
    ∙ ap (λ m. leads m left)
    (off_taken s ops w
    (λ (x : Operand) (source : Place) (ops : List Operand). place_off ops w (λ (y : Operand) (target : Place) (ops : List Operand). handled p w (with_operands ops here) frames (used_up x (used_up y (assigned source target w))) (λ _ w. Goes (with_operands ops here) frames w)))
    ∙ none_off ops w
    (λ (y : Operand) (target : Place) (ops : List Operand). handled p w (with_operands ops here) frames (used_up (taken_operand s) (used_up y (assigned (taken_place s) target w))) (λ _ w. Goes (with_operands ops here) frames w))
    c.in_default-take_place.ensures)

pub returns-in-Ok : goal.returns-in-Ok
returns-in-Ok c = λ u put.
    let m = c.args.machine.now in
    let image = image_of c.args.unit.now.loaded.now in
    let p = program_of image.linked in
    let here = frame_view m.here in
    let frames = frames_of m.waiting.items in
    let w = world_of image m put in
    let left = left_of m in
    let s = c.in-Some.source in
    let t = c.in-Some-take_place.target in
    let x = taken_operand s in
    let y = taken_operand t in
    let ops = stack c.take_place-2.new.operands.items in
    let next = c.use_up.new.machine in
    let new = c.use_up-2.new.machine in
    let first = c.use_up.ensures in
    let second = c.use_up-2.ensures in
    let after = c.assign_area-assigned.new.self in
    let goes = λ (_ : Unit {0}) (w : World). Goes (with_operands ops here) frames w in
    ap (λ all. leads (assigns_area p all here frames w) left) (c.in-Some.ensures ∙ ap (λ below. x ∷ below) c.in-Some-take_place.ensures)
    ∙ ap (λ m. leads m left)
    (off_taken s (y ∷ ops) w
    (λ (x : Operand) (source : Place) (ops : List Operand). place_off ops w (λ (y : Operand) (target : Place) (ops : List Operand). handled p w (with_operands ops here) frames (used_up x (used_up y (assigned source target w))) (λ _ w. Goes (with_operands ops here) frames w)))
    ∙ off_taken t ops w
    (λ (y : Operand) (target : Place) (ops : List Operand). handled p w (with_operands ops here) frames (used_up x (used_up y (assigned (taken_place s) target w))) (λ _ w. Goes (with_operands ops here) frames w)))
    ∙ ap (λ q. leads (handled p w (with_operands ops here) frames (used_up x (used_up y (assigned q (taken_place t) w))) goes) left) (sym c.place.ensures)
    ∙ ap (λ q. leads (handled p w (with_operands ops here) frames (used_up x (used_up y (assigned (place_view c.place.result) q w))) goes) left) (sym c.place-2.ensures)
    ∙ ap (λ a. leads (handled p w (with_operands ops here) frames a goes) left)
    (used_yields x tt (after_use y (with_storage after w)) _ (used_yields y tt (with_storage after w) _ (rw c.in-Ok.is at (c.assign_area-assigned.ensures.answer w))))
    ∙ twice_used x y image None _ next new put first second

pub returns-in_ok-halt-in-Err : goal.returns-in_ok-halt-in-Err
returns-in_ok-halt-in-Err c =
    IfOk-weaker c.settle.result _ _
    (λ stop settles u put.
    let m = c.args.machine.now in
    let image = image_of c.args.unit.now.loaded.now in
    let p = program_of image.linked in
    let here = frame_view m.here in
    let frames = frames_of m.waiting.items in
    let w = world_of image m put in
    let left = left_of m in
    let s = c.in-Some.source in
    let t = c.in-Some-take_place.target in
    let x = taken_operand s in
    let y = taken_operand t in
    let ops = stack c.take_place-2.new.operands.items in
    let next = c.use_up.new.machine in
    let new = c.use_up-2.new.machine in
    let first = c.use_up.ensures in
    let second = c.use_up-2.ensures in
    let after = c.assign_area-assigned.new.self in
    let goes = λ (_ : Unit {0}) (w : World). Goes (with_operands ops here) frames w in
    let before = m.storage in
    let h = c.in_ok-halt-in-Err.halt in
    ap (λ all. leads (assigns_area p all here frames w) left) (c.in-Some.ensures ∙ ap (λ below. x ∷ below) c.in-Some-take_place.ensures)
    ∙ ap (λ m. leads m left)
    (off_taken s (y ∷ ops) w
    (λ (x : Operand) (source : Place) (ops : List Operand). place_off ops w (λ (y : Operand) (target : Place) (ops : List Operand). handled p w (with_operands ops here) frames (used_up x (used_up y (assigned source target w))) (λ _ w. Goes (with_operands ops here) frames w)))
    ∙ off_taken t ops w
    (λ (y : Operand) (target : Place) (ops : List Operand). handled p w (with_operands ops here) frames (used_up x (used_up y (assigned (taken_place s) target w))) (λ _ w. Goes (with_operands ops here) frames w)))
    ∙ ap (λ q. leads (handled p w (with_operands ops here) frames (used_up x (used_up y (assigned q (taken_place t) w))) goes) left) (sym c.place.ensures)
    ∙ ap (λ q. leads (handled p w (with_operands ops here) frames (used_up x (used_up y (assigned (place_view c.place.result) q w))) goes) left) (sym c.place-2.ensures)
    ∙ refused_halts p as_it_is (with_operands ops here) frames left {T = Unit {0}} (λ _. tt) c.in-Err.fault h w (after_use x (after_use y (with_storage before w)))
    (after_use x (after_use y (with_storage after w))) _ goes c.in_ok-halt-in-Err.ensures
    (used_output y w ∙ used_output x (after_use y w)) (used_column y w ∙ used_column x (after_use y w))
    (used_refused {T = Unit {0}} x (λ _. tt) c.in-Err.fault _ _ _ (used_refused {T = Unit {0}} y (λ _. tt) c.in-Err.fault (with_storage before w) (with_storage after w) _ (rw c.in-Err.is at (c.assign_area-assigned.ensures.answer w))))
    ∙ ap (λ u. halted p as_it_is left (Some h) (with_operands ops here) frames (after_use x (after_use y u))) (same_with before after w (rw c.in-Err.is at c.assign_area-assigned.ensures.err))
    ∙ ap (λ f. halted p as_it_is left (Some h) f frames (after_use x (after_use y (with_storage after w)))) (sym (second.here ∙ first.here))
    ∙ ap (λ fs. halted p as_it_is left (Some h) (frame_view new.here) fs (after_use x (after_use y (with_storage after w)))) (sym (second.frames ∙ first.frames))
    ∙ ap (λ u. halted p as_it_is left (Some h) (frame_view new.here) (frames_of new.waiting.items) u)
    (sym (second.world image put ∙ ap (after_use x) (first.world image put)))
    ∙ ap (λ l. halted p as_it_is l (Some h) (frame_view new.here) (frames_of new.waiting.items) (world_of image new put)) (sym (second.left ∙ first.left))
    ∙ settles put)
    c.settle.ensures
