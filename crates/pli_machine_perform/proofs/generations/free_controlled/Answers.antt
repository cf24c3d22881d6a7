use Rattle.std.proofs.Common.{Err, ap, ◌∙◌, subst, sym}
use Rattle.pli_world.specs.Stacks.{generation_unstacked}
use Rattle.pli_store.specs.answers.Answered.{Answered}
use Rattle.pli_store.specs.views.StorageView.{with_storage}
use Rattle.pli_stacks.specs.views.StacksView.{with_stacks}
use Rattle.pli_machine_step.specs.Machine.{Goes, given}
use Rattle.pli_machine_activations.specs.views.ImageView.{image_of}
use Rattle.pli_machine_activations.specs.views.MachineView.{leads, frame_view, frames_of, world_of, left_of}
use Rattle.pli_machine_activations.proofs.StorageAnswers.{stacks_stop, answer_goes}
use Rattle.pli_machine_perform.proofs.GenerationMoves.{unstacked_by_name, unstacked_nowhere}
use Rattle.pli_machine_perform.proofs.generations.free_controlled.Goals as goal

pub returns-in_default : goal.returns-in_default
returns-in_default c = λ u put.
    let m = c.args.machine.now in
    let w = world_of (image_of c.args.unit.now.loaded.now) m put in
    ap (λ a. leads (given w a (λ _ w. Goes (frame_view m.here) (frames_of m.waiting.items) w)) (left_of m))
    (unstacked_nowhere c.args.global w (c.in_default.ensures put))

pub returns-in-Ok : goal.returns-in-Ok
returns-in-Ok c = λ u put.
    let m = c.args.machine.now in
    let w = world_of (image_of c.args.unit.now.loaded.now) m put in
    answer_goes tt w _ (generation_unstacked c.args.global w) (λ _ w. Goes (frame_view m.here) (frames_of m.waiting.items) w) (left_of m)
    (unstacked_by_name c.args.global c.in-Some.stack w (c.in-Some.ensures put) ∙ c.in-Ok.ensures.answer w)

pub returns-in_ok-stop_at-in-Err : goal.returns-in_ok-stop_at-in-Err
returns-in_ok-stop_at-in-Err c = λ u put.
    let m = c.args.machine.now in
    let w = world_of (image_of c.args.unit.now.loaded.now) m put in
    let after = with_stacks c.free_controlled.new.self (with_storage c.free_controlled.new.storage w) in
    stacks_stop {T = Unit {0}} (λ _. tt) c.in-Err.fault c.in_ok-stop_at-in-Err.field-0 c.free_controlled.new.self c.free_controlled.new.storage w after
    (generation_unstacked c.args.global w)
    (λ _ w. Goes (frame_view m.here) (frames_of m.waiting.items) w) (frame_view m.here) (frames_of m.waiting.items) (left_of m) c.in_ok-stop_at-in-Err.ensures
    (subst (λ a. Answered {T = Unit {0}} (λ _. tt) (Err c.in-Err.fault) w after a)
    (sym (unstacked_by_name c.args.global c.in-Some.stack w (c.in-Some.ensures put))) (c.in-Err.ensures.answer w))
