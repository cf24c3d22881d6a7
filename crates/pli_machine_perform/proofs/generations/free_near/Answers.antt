use Rattle.std.proofs.Common.{refl, ◌∙◌}
use Rattle.pli_world.specs.Stacks.{generation_unstacked}
use Rattle.pli_machine_step.specs.Machine.{Goes}
use Rattle.pli_machine_activations.specs.views.ImageView.{image_of}
use Rattle.pli_machine_activations.specs.views.MachineView.{frame_view, frames_of, world_of, left_of}
use Rattle.pli_machine_activations.proofs.StorageAnswers.{answer_goes}
use Rattle.pli_machine_perform.specs.answers.AtOnce.{before_next}
use Rattle.pli_machine_perform.proofs.GenerationMoves.{unstacked_by_name, state_stays}
use Rattle.pli_machine_perform.proofs.generations.free_near.Goals as goal

pub returns-in_default-clause-done : goal.returns-in_default-clause-done
returns-in_default-clause-done c = λ u put. refl

pub returns-then-not-free_at_once-clause-done : goal.returns-then-not-free_at_once-clause-done
returns-then-not-free_at_once-clause-done c = λ u put.
    state_stays (image_of c.args.unit.now.loaded.now) c.args.machine.now c.free_at_once.new.storage c.free_at_once.new.self
    (c.if-not-free_at_once.ensures.storage refl) (c.if-not-free_at_once.ensures.stacks refl) put

pub returns-clause-done : goal.returns-clause-done
returns-clause-done c = λ u put.
    let m = before_next c.args.machine.now c.args.next in
    let w = world_of (image_of c.args.unit.now.loaded.now) m put in
    answer_goes tt w _ (generation_unstacked c.args.global w) (λ _ w. Goes (frame_view m.here) (frames_of m.waiting.items) w) (left_of m)
    (unstacked_by_name c.args.global c.in-Some.number w (c.in-Some.ensures put) ∙ c.if-not-free_at_once.ensures.done refl w)
