use Rattle.std.proofs.Common.{ap, map, subst, sym, ◌∙◌}
use Rattle.pli_build_laws.proofs.BuiltModules.{units_are_written}
use Rattle.pli_code.specs.views.CodeView.{lent_module_view}
use Rattle.pli_link.specs.Units.{AreWritten}
use Rattle.pli_link.specs.views.UnitView.{compiled_view}
use Rattle.pli_ledger.specs.answers.Lending.{decks_of}
use Rattle.pli_ledger.proofs.ModulesStored.{decks_linked}
use Rattle.pli_ledger.proofs.outcome.linked.Goals as goal

pub link-requires : goal.link-requires
link-requires c =
    let same = ap (map compiled_view) c.deref.ensures.value ∙ c.in_ok-lent.ensures ∙ c.requires.units in
    subst AreWritten (sym same) (units_are_written c.args.members.now.entries c.requires.text)

pub stored-requires : goal.stored-requires
stored-requires c =
    let units = map compiled_view c.deref.result.now in
    let program = lent_module_view c.in-Ok.linked.program in
    let decks = ap (map (λ d. d.now)) c.deref-in-Ok.ensures.value ∙ c.in_ok-decks.ensures ∙ ap decks_of (sym (ap (map compiled_view) c.deref.ensures.value ∙ c.in_ok-lent.ensures)) in
    decks_linked units program _ (c.linking_keeps_decks.ensures units program c.in-Ok.ensures) decks
