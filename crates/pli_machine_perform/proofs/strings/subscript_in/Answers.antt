use Rattle.std.proofs.Common.{List, refl, sym, ap, ◌∙◌, rules, w64, SFits}
use Rattle.std.proofs.lemmas.Int.{to_z-of_z}
use Rattle.pli_world.specs.Strings.{subscripted_by}
use Rattle.pli_world.specs.Storage.{Place}
use Rattle.pli_machine_step.specs.Machine.{Operand, AtPlace, given, pushes, subscripts_in, used_up}
use Rattle.pli_machine_operate.specs.views.OperandView.{stack, taken_operand, taken_place}
use Rattle.pli_machine_activations.specs.views.MachineView.{leads, frame_view, frames_of, world_of, left_of}
use Rattle.pli_machine_perform.specs.views.ActView.{subscripted_by_as}
use Rattle.pli_machine_perform.proofs.UsedMoves.{none_off, used_leads, used_moves}
use Rattle.pli_machine_perform.proofs.strings.subscript_in.Goals as goal

pub returns-in_default-take_place : goal.returns-in_default-take_place
returns-in_default-take_place c = λ u image put.
    let m = c.args.machine.now in
    let here = frame_view m.here in
    let frames = frames_of m.waiting.items in
    let w = world_of image m put in
    let left = left_of m in
    let n = c.in-Some.number in
    ap (λ all. leads (subscripts_in c.args.dimension all here frames w) left) c.in-Some.ensures.newest
    ∙ ap (λ m. leads m left)
    (none_off (stack c.pop_number.new.operands.items) w
    (λ (x : Operand) (p : Place) (ops : List Operand). given w (used_up x (subscripted_by c.args.dimension n p w)) (λ q w. pushes here frames (AtPlace q) ops w))
    c.in_default-take_place.ensures)

pub returns : goal.returns
returns c = λ u image put.
    let m = c.args.machine.now in
    let here = frame_view m.here in
    let frames = frames_of m.waiting.items in
    let w = world_of image m put in
    let left = left_of m in
    let number : SFits w64 c.in-Some.number = search rules in
    let does = rw (to_z-of_z w64 c.in-Some.number number) at c.in_ok-stop.ensures in
    let n = c.in-Some.number in
    let t = c.in-Some-take_place.taken in
    let ops = stack c.take_place.new.operands.items in
    ap (λ all. leads (subscripts_in c.args.dimension all here frames w) left) c.in-Some.ensures.newest
    ∙ used_moves t image c.in_ok-stop.stop _ c.use_up.new.machine put (stack c.pop_number.new.operands.items) ops w left
    (λ (x : Operand) (p : Place) (ops : List Operand). given w (used_up x (subscripted_by c.args.dimension n p w)) (λ q w. pushes here frames (AtPlace q) ops w))
    (leads (subscripted_by_as c.args.dimension n (taken_place t) ops here frames w) left) c.in-Some-take_place.ensures
    (used_leads (taken_operand t) w (subscripted_by c.args.dimension n (taken_place t) w) (λ q w. pushes here frames (AtPlace q) ops w) left (λ y v. refl))
    (ap (λ p. leads (subscripted_by_as c.args.dimension n p ops here frames w) left) (sym c.place.ensures) ∙ does here frames w left)
    c.use_up.ensures
