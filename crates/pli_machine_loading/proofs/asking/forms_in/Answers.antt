use Rattle.std.proofs.Common.{length, slice_get, refl, sym, ap, ◌∙◌, arith}
use Rattle.std.proofs.lemmas.Option.{slice_get_read}
use Rattle.pli_code.specs.declared.module.Member.{Member}
use Rattle.pli_machine_loading.specs.answers.AskedForms.{AreAsked}
use Rattle.pli_machine_loading.proofs.AskedLemmas.{still_asked, one_further, of_each}
use Rattle.pli_machine_loading.proofs.asking.forms_in.Goals as goal

pub loop-unit-init : goal.loop-unit-init
loop-unit-init c = λ number u within at. absurd (omega (arith, within))

pub loop-unit-preserved : goal.loop-unit-preserved
loop-unit-preserved c =
    let l = c.loop-unit in
    let units = c.args.«module».now.units.items in
    let u = c.unit-item.result in
    let new = c.with_code-forms.result in
    let read = c.deref-unit-items.result.now in
    let at = ap (λ xs. slice_get xs l.unit-index) (sym c.deref-unit-items.ensures.value)
    ∙ slice_get_read read (length read) l.unit-index u refl c.loop-unit-test.true c.unit-item.is in
    one_further (λ (u : Member). AreAsked u.deck.code.instructions.items new) units l.unit-index u at c.with_code-forms.ensures.all
    (λ number v within there k i here. still_asked l.forms new i c.with_code-forms.ensures.others (l.invariant number v within there k i here))

pub returns : goal.returns
returns c =
    let l = c.loop-unit in
    of_each (λ (u : Member). AreAsked u.deck.code.instructions.items l.forms) c.args.«module».now.units.items l.unit-index (omega (arith, c.loop-unit-test.false, ap length c.deref-unit-items.ensures.value)) l.invariant
