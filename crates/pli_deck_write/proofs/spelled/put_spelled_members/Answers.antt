use Rattle.std.proofs.Common.{arith, ◌∙◌}
use Rattle.std.proofs.lemmas.Simd.{map-map}
use Rattle.pli_code.specs.Modules.{Member}
use Rattle.pli_code.specs.declared.module.LentMember.{LentMember}
use Rattle.pli_code.specs.views.CodeView.{deck_view, lent_member_view}
use Rattle.pli_deck_write.specs.Spelling.{deck_bytes}
use Rattle.pli_deck_write.proofs.ModulePuts.{same_at}
use Rattle.pli_deck_write.proofs.spelled.put_spelled_members.Goals as goal

pub put_spelled-requires : goal.put_spelled-requires
put_spelled-requires c =
    let units = c.args.units.now in
    let same = c.requires ∙ map-map (λ (u : Member). deck_bytes u.deck) lent_member_view units in
    same_at (λ d. d.now) (λ (m : LentMember). deck_bytes (deck_view m.deck.now)) c.args.decks.now units c.loop-at.at _ c.index-units-at.result same (omega (arith, c.loop-at-test.true)) c.index-units-at.is
