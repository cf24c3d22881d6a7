use Rattle.std.proofs.Common.{◌+◌, ◌∙◌, ap, sym, arith, map, drop, ◌∷◌}
use Rattle.std.proofs.lemmas.List.{at_drop_more}
use Rattle.pli_link.specs.Names.{first_declared, all_shared, shared_from}
use Rattle.pli_link.specs.views.NameView.{externals_view}
use Rattle.pli_link.specs.views.UnitView.{compiled_view}
use Rattle.pli_link.specs.declared.units.NamedUnit.{NamedUnit}
use Rattle.pli_code.specs.views.CodeView.{code_view, global_view}
use Rattle.pli_link.proofs.Tables.{declared_after}
use Rattle.pli_link.proofs.names.externals.Goals as goal

pub loop-number-preserved : goal.loop-number-preserved
loop-number-preserved c =
    let units = c.args.units.now in
    let i = c.loop-number.number in
    let unit = c.index-units-number.result in
    let code = code_view unit.deck.now.code in
    let before = externals_view c.loop-number.found.entries in
    let rest = all_shared (i + 1) (map compiled_view (drop (i + 1) units)) in
    record {
      first =
          ap (λ es. first_declared es rest) (c.in_ok-note_shared.ensures.first ∙ ap (λ gs. first_declared before (shared_from code i 0 (map global_view gs))) c.deref.ensures.value)
          ∙ sym (declared_after before (shared_from code i 0 (map global_view unit.deck.now.code.globals.items)) rest)
          ∙ sym (at_drop_more (λ us. first_declared before (all_shared i (map compiled_view us))) units i unit (omega arith)
          ∙ ap (λ (u : NamedUnit). first_declared before (all_shared i (compiled_view u ∷ map compiled_view (drop (i + 1) units)))) (sym c.index-units-number.is))
          ∙ c.loop-number.invariant.first;
      classed = c.in_ok-note_shared.ensures.classed c.loop-number.invariant.classed;
    }
