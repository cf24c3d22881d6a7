use Rattle.std.proofs.Common.{length, refl, sym, subst}
use Rattle.std.specs.Prelude.{IfSome}
use Rattle.std.proofs.lemmas.Option.{slice_get_read}
use Rattle.pli_stacks.specs.answers.LaidBytes.{IsLaid}
use Rattle.pli_machine_activations.proofs.variables.laid_for.Goals as goal

pub returns-in-Some-Some : goal.returns-in-Some-Some
returns-in-Some-Some c = λ t at.
    let h = c.in-Some-Some.ensures.lookup in
    let laid = c.args.ready.now.laid.now in
    let entry = c.in-Some-Some.field-0.now in
    let there = c.args.ready.now.are_laid c.args.number entry (slice_get_read laid (length laid) c.args.number entry refl h.3.0 h.1) t at in
    subst (IsLaid t) (sym c.deref.ensures.value)
    (subst (λ o. IfSome o (λ bytes. IsLaid t bytes.items)) c.in-Some-Some.field-0-is there)
