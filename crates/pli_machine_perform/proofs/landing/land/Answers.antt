use Rattle.std.proofs.Common.{suc, length, ◌∙◌, arith}
use Rattle.std.proofs.lemmas.Bool.{ne_eqb}
use Rattle.pli_machine_activations.specs.views.MachineView.{activations_of, frame_view, frames_of, world_of, left_of}
use Rattle.pli_machine_activations.proofs.EndLemmas.{lands_more, lands_fails}
use Rattle.pli_machine_activations.proofs.SlotPlaces.{how_many}
use Rattle.pli_machine_perform.proofs.landing.land.Goals as goal

pub returns-then-not-leave : goal.returns-then-not-leave
returns-then-not-leave c = λ image put.
    let m = c.loop-machine.machine in
    let none = c.if-not-leave.ensures.leaves image put in
    c.loop-machine.invariant image put
    ∙ lands_fails c.args.height c.args.target (frame_view m.here) (frames_of m.waiting.items) (world_of image m put) _ (left_of m)
    (ne_eqb c.args.height (suc (length (activations_of c.loop-machine.machine.waiting.items)))
    (λ e. omega (arith, e, c.loop-machine-test.true, how_many c.loop-machine.machine.waiting.items)))
    none.frames none.world

pub loop-machine-preserved : goal.loop-machine-preserved
loop-machine-preserved c = λ image put.
    let m = c.loop-machine.machine in
    let left = c.if-not-leave.ensures.leaves image put in
    c.loop-machine.invariant image put
    ∙ lands_more c.args.height c.args.target (frame_view m.here) _ (frames_of m.waiting.items) _ (world_of image m put) _ (left_of m) _
    (ne_eqb c.args.height (suc (length (activations_of c.loop-machine.machine.waiting.items)))
    (λ e. omega (arith, e, c.loop-machine-test.true, how_many c.loop-machine.machine.waiting.items)))
    left.frames left.world left.left
