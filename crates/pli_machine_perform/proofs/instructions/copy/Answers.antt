use Rattle.std.proofs.Common.{◌∷◌, List, refl, sym, ap, ◌∙◌}
use Rattle.pli_world.specs.World.{World, copied}
use Rattle.pli_store.specs.views.StorageView.{place_view}
use Rattle.pli_world.specs.Storage.{Place}
use Rattle.pli_machine_step.specs.Machine.{Operand, Goes, copies, given, place_off, used_up, with_operands}
use Rattle.pli_machine_operate.specs.views.OperandView.{stack, taken_operand, taken_place}
use Rattle.pli_machine_activations.specs.views.MachineView.{leads, frame_view, frames_of, world_of, left_of}
use Rattle.pli_machine_perform.specs.views.ActView.{copied_at}
use Rattle.pli_machine_perform.proofs.UsedMoves.{none_off, off_taken, used_leads, ending, ended_after, twice_used}
use Rattle.pli_machine_perform.proofs.instructions.copy.Goals as goal

pub returns-in_default : goal.returns-in_default
returns-in_default c = λ u image put.
    let m = c.args.machine.now in
    let here = frame_view m.here in
    let frames = frames_of m.waiting.items in
    let w = world_of image m put in
    let left = left_of m in
    ap (λ m. leads m left)
    (none_off (stack m.here.operands.items) w
    (λ (x : Operand) (source : Place) (ops : List Operand). place_off ops w (λ (y : Operand) (target : Place) (ops : List Operand). given w (used_up x (used_up y (copied source target w))) (λ _ w. Goes (with_operands ops here) frames w)))
    c.in_default.ensures)

pub returns-in_default-take_place : goal.returns-in_default-take_place
returns-in_default-take_place c = λ u image put.
    let m = c.args.machine.now in
    let here = frame_view m.here in
    let frames = frames_of m.waiting.items in
    let w = world_of image m put in
    let left = left_of m in
    let s = c.in-Some.source in
    let ops = stack c.take_place.new.operands.items in
    ap (λ all. leads (copies all here frames w) left) c.in-Some.ensures
    ∙ ap (λ m. leads m left)
    (off_taken s ops w
    (λ (x : Operand) (source : Place) (ops : List Operand). place_off ops w (λ (y : Operand) (target : Place) (ops : List Operand). given w (used_up x (used_up y (copied source target w))) (λ _ w. Goes (with_operands ops here) frames w)))
    ∙ none_off ops w
    (λ (y : Operand) (target : Place) (ops : List Operand). given w (used_up (taken_operand s) (used_up y (copied (taken_place s) target w))) (λ _ w. Goes (with_operands ops here) frames w))
    c.in_default-take_place.ensures)

pub returns : goal.returns
returns c = λ u image put.
    let m = c.args.machine.now in
    let here = frame_view m.here in
    let frames = frames_of m.waiting.items in
    let w = world_of image m put in
    let left = left_of m in
    let s = c.in-Some.source in
    let t = c.in-Some-take_place.target in
    let x = taken_operand s in
    let y = taken_operand t in
    let ops = stack c.take_place-2.new.operands.items in
    let stop = c.in_ok-stop.stop in
    let goes = λ (_ : Unit {0}) (w : World). Goes (with_operands ops here) frames w in
    ap (λ all. leads (copies all here frames w) left) (c.in-Some.ensures ∙ ap (λ below. x ∷ below) c.in-Some-take_place.ensures)
    ∙ ap (λ m. leads m left)
    (off_taken s (y ∷ ops) w
    (λ (x : Operand) (source : Place) (ops : List Operand). place_off ops w (λ (y : Operand) (target : Place) (ops : List Operand). given w (used_up x (used_up y (copied source target w))) (λ _ w. Goes (with_operands ops here) frames w)))
    ∙ off_taken t ops w
    (λ (y : Operand) (target : Place) (ops : List Operand). given w (used_up x (used_up y (copied (taken_place s) target w))) (λ _ w. Goes (with_operands ops here) frames w)))
    ∙ used_leads x w (used_up y (copied (taken_place s) (taken_place t) w)) goes left (λ y v. refl)
    ∙ ap (ending x)
    (used_leads y w (copied (taken_place s) (taken_place t) w) goes left (λ y v. refl)
    ∙ ap (ending y)
    (ap (λ p. leads (copied_at p (taken_place t) ops here frames w) left) (sym c.place.ensures)
    ∙ ap (λ p. leads (copied_at (place_view c.place.result) p ops here frames w) left) (sym c.place-2.ensures)
    ∙ c.in_ok-stop.ensures ops here frames w left)
    ∙ ended_after y left stop (with_operands ops here) frames _)
    ∙ ended_after x left stop (with_operands ops here) frames _
    ∙ twice_used x y image stop _ c.use_up.new.machine c.use_up-2.new.machine put c.use_up.ensures c.use_up-2.ensures
