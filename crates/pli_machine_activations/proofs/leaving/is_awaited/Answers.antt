use Rattle.std.proofs.Common.{◌≡◌, ◌-◌, ◌<◌, Some, length, slice_get, refl, sym, ap, subst, ◌∙◌, arith}
use Rattle.std.specs.Prelude.{vec_len, IfSome}
use Rattle.std.proofs.lemmas.Bool.{ltb-true}
use Rattle.std.proofs.lemmas.Option.{slice_get_read}
use Rattle.pli_machine_activations.specs.answers.Activated.{Awaits}
use Rattle.pli_machine_activations.proofs.leaving.is_awaited.Goals as goal

pub returns-clause-awaits : goal.returns-clause-awaits
returns-clause-awaits c = λ roomy.
    let waiting = c.args.machine.now.waiting in
    let count = c.len-count.result in
    let is : count ≡ vec_len waiting = c.len-count.ensures in
    let next = c.index-next.result.now in
    let within : count - 1 < length waiting.items = omega (arith, waiting.ok.0, is, c.if-count-eq0.false) in
    let here : slice_get waiting.items (count - 1) ≡ Some next = slice_get_read waiting.items (length waiting.items) (count - 1) next refl within c.index-next.ensures in
    subst (λ o. IfSome o Awaits) (sym (ap (λ n. slice_get waiting.items (n - 1)) (sym is) ∙ here)) (record { at_once = c.if-next.false; memory = omega (arith, ltb-true _ _ roomy) })
