use Rattle.std.proofs.Common.{arith, nat_eq}
use Rattle.std.specs.HashMap.{get}
use Rattle.pli_program.specs.declared.instruction.Instruction.TheVariants as op
use Rattle.pli_gen.proofs.StepPlaces.{more_steps}
use Rattle.pli_gen.proofs.gotos.step_places.Goals as goal

pub loop-place-preserved : goal.loop-place-preserved
loop-place-preserved c =
    λ n. more_steps c.args.code.now c.loop-place.place (op.Step 0) (get nat_eq c.loop-place.places n) (get nat_eq c.note_step.new.places n) n _ (omega arith)
    (c.in_ok-note_step.ensures n) (c.loop-place.invariant n)
