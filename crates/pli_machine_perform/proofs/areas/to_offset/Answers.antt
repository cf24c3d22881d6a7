use Rattle.std.proofs.Common.{List, refl, sym, ap, ◌∙◌}
use Rattle.pli_world.specs.Locating.{offset_made}
use Rattle.pli_machine_step.specs.Machine.{Operand, OfValue, given, pushes, used_up, value_off}
use Rattle.pli_world.specs.Storage.{Place}
use Rattle.pli_machine_operate.specs.views.OperandView.{stack, taken_operand, taken_place}
use Rattle.pli_machine_activations.specs.views.MachineView.{leads, frame_view, frames_of, world_of, left_of}
use Rattle.pli_machine_perform.specs.views.ActView.{offset_as}
use Rattle.pli_machine_perform.proofs.UsedMoves.{none_off, used_value, used_leads, used_moves}
use Rattle.pli_machine_perform.proofs.areas.to_offset.Goals as goal

pub returns-in_default : goal.returns-in_default
returns-in_default c = λ u image put.
    let m = c.args.machine.now in
    let here = frame_view m.here in
    let frames = frames_of m.waiting.items in
    let w = world_of image m put in
    let left = left_of m in
    ap (λ m. leads m left)
    (none_off (stack m.here.operands.items) w
    (λ (x : Operand) (p : Place) (ops : List Operand). value_off ops w (λ v ops. given w (used_up x (offset_made p v w)) (λ q w. pushes here frames (OfValue q) ops w)))
    c.in_default.ensures)

pub returns : goal.returns
returns c = λ u image put.
    let m = c.args.machine.now in
    let here = frame_view m.here in
    let frames = frames_of m.waiting.items in
    let w = world_of image m put in
    let left = left_of m in
    let t = c.in-Some.area in
    let ops = stack c.take_place.new.operands.items in
    used_moves t image c.in_ok-stop.stop _ c.use_up.new.machine put (stack m.here.operands.items) ops w left
    (λ (x : Operand) (p : Place) (ops : List Operand). value_off ops w (λ v ops. given w (used_up x (offset_made p v w)) (λ q w. pushes here frames (OfValue q) ops w)))
    (leads (offset_as (taken_place t) ops here frames w) left) c.in-Some.ensures
    (used_value (taken_operand t) ops w (λ v ops. given w (used_up (taken_operand t) (offset_made (taken_place t) v w)) (λ q w. pushes here frames (OfValue q) ops w))
    (λ v ops. given w (offset_made (taken_place t) v w) (λ q w. pushes here frames (OfValue q) ops w)) left
    (λ v ops. used_leads (taken_operand t) w (offset_made (taken_place t) v w) (λ q w. pushes here frames (OfValue q) ops w) left (λ y v. refl)))
    (ap (λ p. leads (offset_as p ops here frames w) left) (sym c.place.ensures) ∙ c.in_ok-stop.ensures here frames w left)
    c.use_up.ensures
