use Rattle.std.proofs.Common.{ℕ, nat_eq, unwrap_or, slice_set, get_or, min, arith, ap, ◌∙◌}
use Rattle.std.specs.HashMap.{get}
use Rattle.pli_program.specs.declared.instruction.Instruction.TheVariants as op
use Rattle.pli_gen_emit.specs.declared.emitter.LabelJump.{LabelJump}
use Rattle.pli_gen.proofs.CodeEmitted.{more_landed}
use Rattle.pli_gen.proofs.gotos.land_each.Goals as goal

pub loop-jump-preserved : goal.loop-jump-preserved
loop-jump-preserved c =
    let place : ℕ → ℕ = λ n. unwrap_or (get nat_eq c.args.places.now n) 0 in
    let none : LabelJump = record { place = 0; outward = 0; label = 0 } in
    let j = get_or c.args.gotos.now c.loop-jump.jump-index none in
    let code = c.loop-jump.code.items in
    more_landed place c.args.gotos.now c.loop-jump.jump-index none code c.replace.new.code.items _ (omega arith)
    (c.replace.ensures ∙ ap (λ n. slice_set code j.place (op.Goto j.outward n)) (c.short-target.ensures ∙ ap (λ k. min k 65535) c.place_of.ensures))
    c.loop-jump.invariant
