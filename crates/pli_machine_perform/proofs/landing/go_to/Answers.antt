use Rattle.std.proofs.Common.{◌+◌, ◌-◌, ◌∷◌, ◌∙◌, ap, arith}
use Rattle.pli_machine_step.specs.Machine.{given, lands}
use Rattle.pli_machine_activations.specs.views.MachineView.{leads, frame_view, frames_of, world_of, left_of}
use Rattle.pli_machine_activations.proofs.SlotPlaces.{height_here, height_outward, height_nowhere}
use Rattle.pli_machine_perform.proofs.landing.go_to.Goals as goal

pub returns-then-outward-eq0 : goal.returns-then-outward-eq0
returns-then-outward-eq0 c = λ u image put.
    let m = c.args.machine.now in
    ap (λ a. leads (given (world_of image m put) a (λ h w. lands h c.args.target (frame_view m.here ∷ frames_of m.waiting.items) w)) (left_of m))
    (height_here image m put c.args.outward (c.len-height.result + 1) c.if-outward-eq0.true (omega arith))
    ∙ c.land.ensures image put

pub returns-in-Some : goal.returns-in-Some
returns-in-Some c = λ u image put.
    let m = c.args.machine.now in
    let found = rw c.in-Some.is at c.outer_place.ensures.found in
    ap (λ a. leads (given (world_of image m put) a (λ h w. lands h c.args.target (frame_view m.here ∷ frames_of m.waiting.items) w)) (left_of m))
    (height_outward image m put c.args.outward (c.args.outward - 1) c.in-Some.place (c.in-Some.place + 1) (omega arith) (omega arith) found)
    ∙ c.land-in-Some.ensures image put

pub returns-in-None : goal.returns-in-None
returns-in-None c = λ u image put.
    let m = c.args.machine.now in
    let found = rw c.in-None.is at c.outer_place.ensures.found in
    ap (λ a. leads (given (world_of image m put) a (λ h w. lands h c.args.target (frame_view m.here ∷ frames_of m.waiting.items) w)) (left_of m))
    (height_nowhere image m put c.args.outward (c.args.outward - 1) (omega arith) found)
