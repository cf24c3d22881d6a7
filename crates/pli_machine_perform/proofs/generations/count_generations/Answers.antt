use Rattle.std.proofs.Common.{ℕ, pos, refl, sym, ap, ◌∙◌}
use Rattle.std.proofs.lemmas.Result.{IfOk-weaker}
use Rattle.pli_value.specs.Value.{Number}
use Rattle.pli_world.specs.Stacks.{counted}
use Rattle.pli_world.specs.World.{Yields, further}
use Rattle.pli_code.specs.Modules.{program_of}
use Rattle.pli_machine_step.specs.Machine.{OfValue, Goes, calculates, pushes, with_operands}
use Rattle.pli_machine_operate.specs.views.OperandView.{stack}
use Rattle.pli_machine_activations.specs.views.ImageView.{image_of}
use Rattle.pli_machine_activations.specs.views.MachineView.{leads, frame_view, frames_of, world_of, left_of}
use Rattle.pli_stacks.proofs.AnsweredCalls.{first_refused}
use Rattle.pli_machine_perform.specs.views.HaltView.{giving_zero}
use Rattle.pli_machine_perform.proofs.GenerationMoves.{counted_by_name, counted_nowhere}
use Rattle.pli_machine_perform.proofs.HaltLemmas.{answer_halts}
use Rattle.pli_machine_perform.proofs.generations.count_generations.Goals as goal

pub returns-in_default : goal.returns-in_default
returns-in_default c = λ u put.
    let m = c.args.machine.now in
    let image = image_of c.args.unit.now.loaded.now in
    let w = world_of image m put in
    ap (λ a. leads (calculates (program_of image.linked) a (stack m.here.operands.items) (frame_view m.here) (frames_of m.waiting.items) w) (left_of m))
    (counted_nowhere c.args.global w (c.in_default.ensures put))

pub returns-in_ok-push-in-Ok : goal.returns-in_ok-push-in-Ok
returns-in_ok-push-in-Ok c = λ u put.
    let m = c.args.machine.now in
    let image = image_of c.args.unit.now.loaded.now in
    let w = world_of image m put in
    ap (λ a. leads (calculates (program_of image.linked) a (stack m.here.operands.items) (frame_view m.here) (frames_of m.waiting.items) w) (left_of m))
    (counted_by_name c.args.global c.in-Some.stack w (c.in-Some.ensures put)
    ∙ ap (λ a. further a (λ count w. Yields (Number (pos count)) w)) (c.in-Ok.ensures w))
    ∙ ap (λ v. leads (pushes (frame_view m.here) (frames_of m.waiting.items) (OfValue v) (stack m.here.operands.items) w) (left_of m)) (sym c.count_value.ensures)
    ∙ ap (λ ops. leads (Goes (with_operands ops (frame_view m.here)) (frames_of m.waiting.items) w) (left_of m)) (sym c.in_ok-push-in-Ok.ensures)

pub returns-in_ok-halt-in-Err : goal.returns-in_ok-halt-in-Err
returns-in_ok-halt-in-Err c =
    let m = c.args.machine.now in
    let image = image_of c.args.unit.now.loaded.now in
    let p = program_of image.linked in
    IfOk-weaker c.count_halted.result _ _
    (λ s settles u put.
    let w = world_of image m put in
    ap (λ a. leads (calculates p a (stack m.here.operands.items) (frame_view m.here) (frames_of m.waiting.items) w) (left_of m))
    (counted_by_name c.args.global c.in-Some.stack w (c.in-Some.ensures put))
    ∙ answer_halts p giving_zero (frame_view m.here) (frames_of m.waiting.items) (left_of m) {T = ℕ} (λ n. Number (pos n)) c.in-Err.fault c.in_ok-halt-in-Err.halt
    m.storage m.storage w w (further (counted c.in-Some.stack w) (λ count w. Yields (Number (pos count)) w))
    (λ v w. pushes (frame_view m.here) (frames_of m.waiting.items) (OfValue v) (stack m.here.operands.items) w)
    c.in_ok-halt-in-Err.ensures (record { storage = refl; made = refl })
    (first_refused {U = ℕ} (λ n. n) (λ n. Number (pos n)) c.in-Err.fault w w w (counted c.in-Some.stack w) (λ count w. Yields (Number (pos count)) w) (c.in-Err.ensures w))
    ∙ settles put)
    c.count_halted.ensures
