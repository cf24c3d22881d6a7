use Rattle.std.proofs.Common.{◌≡◌, Some, ◌∷◌, [], length, slice_get, refl, sym, ap, subst, ◌∙◌, arith, length-append}
use Rattle.std.proofs.lemmas.Option.{same_Some, slice_get_read}
use Rattle.pli_code.specs.declared.module.Member.{Member}
use Rattle.pli_code.specs.views.CodeView.{code_view}
use Rattle.pli_machine_activations.specs.answers.LaidTemplates.{AreLaid, UnitsLaid}
use Rattle.pli_store.proofs.OneMore.{each_more}
use Rattle.pli_machine_loading.proofs.laying.lay_units.Goals as goal

pub loop-unit-preserved : goal.loop-unit-preserved
loop-unit-preserved c =
    let l = c.loop-unit in
    let units = c.args.«module».now.units.items in
    let table = c.in_ok-table.table in
    let more = c.in_ok-push.ensures.items in
    record {
      count = omega (arith, ap length more, length-append l.laid.items (table ∷ []), l.invariant.count);
      laid = subst (UnitsLaid units) (sym more)
          (each_more (λ k table. (u : Member) → slice_get units k ≡ Some u → AreLaid (code_view u.deck.code) table.items)
          l.laid.items table l.invariant.laid
          (λ u there. subst (λ u. AreLaid (code_view u.deck.code) table.items)
          (same_Some c.unit-item.result u
          (sym (ap (λ xs. slice_get xs l.unit-index) (sym c.deref-unit-items.ensures.value)
          ∙ slice_get_read c.deref-unit-items.result.now (length c.deref-unit-items.result.now) l.unit-index c.unit-item.result refl c.loop-unit-test.true c.unit-item.is)
          ∙ ap (slice_get units) (sym l.invariant.count) ∙ there))
          c.in_ok-table.ensures));
    }
