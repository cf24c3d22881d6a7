-- The bytes of what a build links spell the module that members give; its decks are those that were lent.
use Rattle.std.specs.Prelude.{◌≡◌, ℕ, ◌≤◌, List, length, map}
use Rattle.std.specs.List.{AllByRecursion}
use Rattle.std.proofs.Common.{ap, subst, sym, ◌∙◌}
use Rattle.std.proofs.lemmas.Simd.{map-map}
use Rattle.pli_base.specs.Name.{Name}
use Rattle.pli_code.specs.Modules as modules
use Rattle.pli_code.specs.declared.module.LentModule.{LentModule}
use Rattle.pli_code.specs.views.CodeView.{lent_member_view, lent_module_view}
use Rattle.pli_deck_write.specs.ModuleSpelling.{module_bytes, SpellsModule}
use Rattle.pli_deck_write.specs.Spelling.{deck_bytes}
use Rattle.pli_deck_write.specs.answers.SpelledUnits.{AreDecks}
use Rattle.pli_deck_laws.specs.UnitTypes.{IsTypedUnit}
use Rattle.pli_build_laws.proofs.BuiltModules.{built_modules_are_spelled}
use Rattle.pli_meaning.specs.Scratch.{scratch, Made}
use Rattle.pli_members.specs.Members.{Member}
use Rattle.pli_link.specs.Units.{Compiled}
use Rattle.pli_ledger.specs.answers.Built.{IsOfMembers}
use Rattle.pli_ledger.specs.answers.Lending.{decks_of}

pub is_of_members : (entries : List (Name × Member)) (m : LentModule) (bytes : List ℕ) → length entries ≤ 999 → scratch entries ≡ Made (lent_module_view m)
    → AllByRecursion IsTypedUnit (map lent_member_view m.units.items) → bytes ≡ module_bytes (lent_module_view m) → IsOfMembers entries bytes
is_of_members entries m bytes few is typed same = record {
  made = lent_module_view m;
  is = is;
  spelled = subst (λ bs. SpellsModule bs (lent_module_view m)) (sym same) (built_modules_are_spelled entries (lent_module_view m) few is typed);
}

-- the decks of what is linked are those of the units
pub decks_linked : (cs : List Compiled) (m : modules.Module) (decks : List (List ℕ)) → map (λ (u : modules.Member). u.deck) m.units ≡ map (λ (c : Compiled). c.deck) cs → decks ≡ decks_of cs
    → AreDecks decks m.units
decks_linked cs m decks same are =
    are ∙ sym (map-map deck_bytes (λ (c : Compiled). c.deck) cs) ∙ ap (map deck_bytes) (sym same) ∙ map-map deck_bytes (λ (u : modules.Member). u.deck) m.units
