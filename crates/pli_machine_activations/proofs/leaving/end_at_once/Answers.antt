use Rattle.std.proofs.Common.{true≢false, refl, sym, subst, ◌∙◌}
use Rattle.std.specs.Prelude.{IfSome}
use Rattle.pli_machine_activations.specs.answers.Activated.{Awaits}
use Rattle.pli_machine_activations.specs.views.MachineView.{frame_view, frames_of, world_of, left_of}
use Rattle.pli_machine_activations.proofs.EndLemmas.{goes_at_once, returned_goes}
use Rattle.pli_machine_activations.proofs.leaving.end_at_once.Goals as goal

pub returns-clause-ended : goal.returns-clause-ended
returns-clause-ended c = λ is u image put.
    let m = c.leave_at_once.new.machine in
    let left = rw is at c.leave_at_once.ensures.leaves image put in
    let next = subst (λ o. IfSome o Awaits) (c.leave_at_once.ensures.next is) (c.is_awaited.ensures.awaits c.if-not-is_awaited.false) in
    returned_goes 0 _ _ _ _ _ _ _ refl left.frames left.world left.left
    ∙ goes_at_once m.here.again (frame_view m.here) (frames_of m.waiting.items) (world_of image m put) (left_of m) next.at_once

pub returns-clause-same : goal.returns-clause-same
returns-clause-same c = λ none. absurd (true≢false (sym (c.leave_at_once.ensures.some (c.is_awaited.ensures.some c.if-not-is_awaited.false)) ∙ none))
