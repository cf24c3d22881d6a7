use Rattle.std.proofs.Common.{ap, sym, ◌∙◌, ◌∷◌}
use Rattle.pli_world.specs.Conditions.{is_newest}
use Rattle.pli_code.specs.CodeTables.{block_looked_up}
use Rattle.pli_code.specs.views.CodeView.{block_view}
use Rattle.pli_machine_activations.specs.views.MachineView.{activation_view, activations_of, frame_view, frames_of, world_of, left_of}
use Rattle.pli_machine_activations.proofs.ConditionLemmas.{establishes_other, establishes_elsewhere, establishes_here}
use Rattle.pli_machine_activations.proofs.conditions.establish_block.Goals as goal

pub returns-then-not-is_establishable : goal.returns-then-not-is_establishable
returns-then-not-is_establishable c = λ code image put.
    let m = c.args.machine.now in
    establishes_other c.args.condition c.args.number (block_looked_up code (block_view c.args.block.now)) (frame_view m.here) (frames_of m.waiting.items) (world_of image m put) (left_of m)
    (sym c.is_establishable.ensures ∙ c.if-not-is_establishable.true)

pub returns-in_default : goal.returns-in_default
returns-in_default c = λ code image put.
    let m = c.args.machine.now in
    establishes_elsewhere c.args.condition c.args.number (block_looked_up code (block_view c.args.block.now)) (frame_view m.here) (frames_of m.waiting.items) (world_of image m put) (left_of m)
    (sym c.is_establishable.ensures ∙ c.if-not-is_establishable.false)
    (ap (λ p. is_newest m.here.unit p (world_of image m put).activations) c.in_default.is)

pub returns-then-not-is_of : goal.returns-then-not-is_of
returns-then-not-is_of c = λ code image put.
    let m = c.args.machine.now in
    establishes_elsewhere c.args.condition c.args.number (block_looked_up code (block_view c.args.block.now)) (frame_view m.here) (frames_of m.waiting.items) (world_of image m put) (left_of m)
    (sym c.is_establishable.ensures ∙ c.if-not-is_establishable.false)
    (ap (λ p. is_newest m.here.unit p (world_of image m put).activations) c.in-Some.is ∙ sym c.is_of.ensures ∙ c.if-not-is_of.true)

pub returns : goal.returns
returns c = λ code image put.
    let m = c.args.machine.now in
    let w = world_of image m put in
    establishes_here c.args.condition c.args.number (block_looked_up code (block_view c.args.block.now)) (frame_view m.here) (frames_of m.waiting.items) w (left_of m)
    (sym c.is_establishable.ensures ∙ c.if-not-is_establishable.false) _
    (ap (λ p. is_newest m.here.unit p w.activations) c.in-Some.is ∙ sym c.is_of.ensures ∙ c.if-not-is_of.false)
    (ap (λ us. record w { activations = record (activation_view m.here) { on_units = us } ∷ activations_of m.waiting.items }) c.set.ensures)
