-- What DUMP answers is a case of the session.
use Rattle.std.specs.Prelude.{◌≡◌, ℕ, true, false, ◌++◌, List, Option, Some, None, is_some, refl}
use Rattle.std.proofs.Common.{sym, subst, ap, ◌∙◌}
use Rattle.pli_commands.specs.Dumps.{hex_from}
use Rattle.pli_commands.specs.Exchanges.{exchange}
use Rattle.pli_bench.specs.Session.{State, Dumps}
use Rattle.pli_commands.specs.AnswerLines.{okay, not_built}
use Rattle.pli_ledger.specs.answers.Built.{IsOfMembers}
use Rattle.pli_deck_write.proofs.BytesAlike.{module_same}
use Rattle.pli_deck_write.specs.ModuleSpelling.{SpellsModule}
use Rattle.pli_ledger.specs.answers.Built.{IsStanding}
use Rattle.pli_ledger.specs.declared.stored.StoredModule.{StoredModule}
use Rattle.pli_bench.specs.laws.ShownModules.{ShowsModule}

-- no module stands
pub dumps_not : (s : State) → s.stands ≡ false → Dumps s.stands (exchange s not_built s)
dumps_not s e = subst (λ b. Dumps b (exchange s not_built s)) (sym e) (refl, refl)

-- its bytes are shown
pub dumps : (s : State) (bytes : List ℕ) → s.stands ≡ true → IsOfMembers s.store.entries bytes → Dumps s.stands (exchange s (hex_from 0 bytes ++ okay) s)
dumps s bytes stands of =
    let same = of.spelled.spelled ∙ module_same of.made in
    subst (λ b. Dumps b (exchange s (hex_from 0 bytes ++ okay) s)) (sym stands)
    (of.made, of.is, (ap (λ bs. hex_from 0 bs ++ okay) same, refl))

-- what stands is the module of the members, which its bytes spell
pub shows : (s : State) (standing : Option StoredModule) → s.stands ≡ is_some standing → IsStanding s.store.entries standing → ShowsModule s
shows s None same is stands = let bad : ⊥ = cc in absurd bad
shows s (Some m) same is stands =
    record { made = is.made; is = is.is; spelled = subst (λ bs. SpellsModule bs is.made) (is.spelled.spelled ∙ module_same is.made) is.spelled }
