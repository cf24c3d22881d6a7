use Rattle.std.proofs.Common.{List, refl, sym, ap, ◌∙◌}
use Rattle.pli_world.specs.Strings.{bound_of_place}
use Rattle.pli_machine_step.specs.Machine.{Operand, OfValue, given, pushes, used_up}
use Rattle.pli_world.specs.Storage.{Place}
use Rattle.pli_machine_operate.specs.views.OperandView.{stack, taken_operand, taken_place}
use Rattle.pli_machine_activations.specs.views.MachineView.{leads, frame_view, frames_of, world_of, left_of}
use Rattle.pli_machine_perform.specs.views.ActView.{bounded_as}
use Rattle.pli_machine_perform.proofs.UsedMoves.{none_off, used_leads, used_moves}
use Rattle.pli_machine_perform.proofs.strings.bound_of.Goals as goal

pub returns-in_default : goal.returns-in_default
returns-in_default c = λ u image put.
    let m = c.args.machine.now in
    let here = frame_view m.here in
    let frames = frames_of m.waiting.items in
    let w = world_of image m put in
    let left = left_of m in
    ap (λ m. leads m left)
    (none_off (stack m.here.operands.items) w (λ (x : Operand) (p : Place) (ops : List Operand). given w (used_up x (bound_of_place c.args.which c.args.dimension p w)) (λ q w. pushes here frames (OfValue q) ops w))
    c.in_default.ensures)

pub returns : goal.returns
returns c = λ u image put.
    let m = c.args.machine.now in
    let here = frame_view m.here in
    let frames = frames_of m.waiting.items in
    let w = world_of image m put in
    let left = left_of m in
    let t = c.in-Some.taken in
    let ops = stack c.take_place.new.operands.items in
    used_moves t image c.in_ok-stop.stop _ c.use_up.new.machine put (stack m.here.operands.items) ops w left
    (λ (x : Operand) (p : Place) (ops : List Operand). given w (used_up x (bound_of_place c.args.which c.args.dimension p w)) (λ q w. pushes here frames (OfValue q) ops w))
    (leads (bounded_as c.args.which c.args.dimension (taken_place t) ops here frames w) left) c.in-Some.ensures
    (used_leads (taken_operand t) w (bound_of_place c.args.which c.args.dimension (taken_place t) w) (λ q w. pushes here frames (OfValue q) ops w) left (λ y v. refl))
    (ap (λ p. leads (bounded_as c.args.which c.args.dimension p ops here frames w) left) (sym c.place.ensures) ∙ c.in_ok-stop.ensures here frames w left)
    c.use_up.ensures
