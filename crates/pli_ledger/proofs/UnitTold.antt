-- What is told of one unit, by the case of what is kept of it.
use Rattle.std.proofs.Common.{◌≡◌, ℕ, List, [], ◌++◌, map, Option, None, Some, Result, Ok, Err, refl, sym, ap, ◌∙◌, append-nil}
use Rattle.std.specs.List.{flat_map}
use Rattle.std.specs.Option.{option_map, option_to_list}
use Rattle.std.specs.Result.{result_ok}
use Rattle.pli_base.specs.Name.{Name}
use Rattle.pli_base.specs.Words.{Tokens}
use Rattle.pli_base.specs.declared.token.Fault.{Fault}
use Rattle.pli_base.specs.declared.token.Origin.{Origin}
use Rattle.pli_code.specs.CodeTables.{Deck}
use Rattle.pli_deck.specs.Faults.{faults_of}
use Rattle.pli_deck.specs.declared.compiled.Compiled.{Compiled}
use Rattle.pli_deck.specs.views.OutcomeView.{outcome_view}
use Rattle.pli_deck_write.specs.Spelling.{deck_bytes}
use Rattle.pli_include.specs.Expanded.{Expanded}
use Rattle.pli_include.specs.declared.expansion.ExpansionFault.{ExpansionFault}
use Rattle.pli_link.specs.Units as plain
use Rattle.pli_meaning.specs.Scratch.{Diagnostic, diagnostic_line, diagnostics_in, located, one}
use Rattle.pli_meaning.specs.MemberParts.{deck_located, units_of}
use Rattle.pli_ledger.specs.Kept.{Kept}
use Rattle.pli_ledger.specs.Told.{told, told_by, told_kept}
use Rattle.pli_ledger.specs.answers.Lending.{decks_of, given_units}
use Rattle.pli_ledger.specs.views.KeptView.{HaveResult}

lines_of : (name : Name) (origins : List Origin) (r : Result Deck (List Fault))
    → diagnostics_in name (deck_located name origins r) ≡ flat_map (diagnostic_line name) (map (located name origins) (faults_of r))
lines_of name origins (Ok d) = refl
lines_of name origins (Err faults) = refl

decks_told : (name : Name) (origins : List Origin) (r : Result Deck (List Fault))
    → units_of (deck_located name origins r) ≡ option_to_list (option_map (plain.as_unit name) (result_ok r))
decks_told name origins (Ok d) = refl
decks_told name origins (Err faults) = refl

-- no result is kept where there is none
none_kept : (texts : Option Tokens) → HaveResult texts None → texts ≡ None
none_kept None h = refl
none_kept (Some t) h = absurd h

-- no deck of a unit that has diagnostics, or no result
pub no_deck : (u : Name × Kept) (diagnostics : List Diagnostic) → told u ≡ Err diagnostics → [] ≡ units_of (told u)
no_deck u diagnostics is = sym (ap units_of is)

module _ (u : Name × Kept) where
  -- nothing is expanded
  pub told_none : None ≡ u.1.expansion → told u ≡ Err []
  told_none is = ap (λ (x : Option Expanded). told_kept u.0 x u.1.compiled) (sym is)

  module _ (e : Expanded) (is : Some e ≡ u.1.expansion) where
    told_expanded : told u ≡ told_by u.0 e.origins e.fault u.1.compiled
    told_expanded = ap (λ (x : Option Expanded). told_kept u.0 x u.1.compiled) (sym is)

    -- the expansion has a fault
    pub told_fault : (fault : ExpansionFault) → Some fault ≡ e.fault → told u ≡ Err (one fault.code fault.origin)
    told_fault fault faulty = told_expanded ∙ ap (λ (f : Option ExpansionFault). told_by u.0 e.origins f u.1.compiled) (sym faulty)

    module _ (whole : None ≡ e.fault) where
      -- it has none, and nothing is compiled
      pub told_uncompiled : HaveResult u.1.compiled None → told u ≡ Err []
      told_uncompiled none =
          told_expanded ∙ ap (λ (f : Option ExpansionFault). told_by u.0 e.origins f u.1.compiled) (sym whole) ∙ ap (told_by u.0 e.origins None) (none_kept u.1.compiled none)

      -- it was compiled
      pub told_compiled : (c : Compiled) → HaveResult u.1.compiled (Some c) → told u ≡ deck_located u.0 e.origins (outcome_view c)
      told_compiled c has = told_expanded ∙ ap (λ (f : Option ExpansionFault). told_by u.0 e.origins f u.1.compiled) (sym whole) ∙ by u.1.compiled has
        where
          by : (texts : Option Tokens) → HaveResult texts (Some c) → told_by u.0 e.origins None texts ≡ deck_located u.0 e.origins (outcome_view c)
          by None has = absurd has
          by (Some t) has = ap (λ (r : Result Deck (List Fault)). deck_located u.0 e.origins r) (sym has)

      pub faults_told : (c : Compiled) (old new : List ℕ) → HaveResult u.1.compiled (Some c) → new ≡ old ++ flat_map (diagnostic_line u.0) (map (located u.0 e.origins) (faults_of (outcome_view c)))
          → new ≡ old ++ diagnostics_in u.0 (told u)
      faults_told c old new has written =
          written ∙ ap (λ (t : List ℕ). old ++ t) (sym (ap (diagnostics_in u.0) (told_compiled c has) ∙ lines_of u.0 e.origins (outcome_view c)))

      pub good_told : (result : Option Compiled) → HaveResult u.1.compiled result → given_units u.0 result ≡ units_of (told u)
      good_told None none = no_deck u [] (told_uncompiled none)
      good_told (Some c) has = sym (ap units_of (told_compiled c has) ∙ decks_told u.0 e.origins (outcome_view c))

-- no line of a unit without a result and without a fault
pub nothing_told : (u : Name × Kept) (text : List ℕ) → told u ≡ Err [] → text ≡ text ++ diagnostics_in u.0 (told u)
nothing_told u text is = sym (ap (λ (r : Result plain.Compiled (List Diagnostic)). text ++ diagnostics_in u.0 r) is ∙ append-nil text)

-- the line of a fault of the expansion
pub fault_told : (u : Name × Kept) (fault : ExpansionFault) (old new : List ℕ) → told u ≡ Err (one fault.code fault.origin)
    → new ≡ old ++ diagnostic_line u.0 (record { origin = fault.origin; code = fault.code }) → new ≡ old ++ diagnostics_in u.0 (told u)
fault_told u fault old new is written =
    let line = diagnostic_line u.0 (record { origin = fault.origin; code = fault.code }) in
    written ∙ ap (λ (t : List ℕ). old ++ t) (sym (ap (diagnostics_in u.0) is ∙ append-nil line))

-- the bytes of the deck of a result, if it has one
pub bytes_told : (name : Name) (deck : Option Deck) → option_to_list (option_map deck_bytes deck) ≡ decks_of (option_to_list (option_map (plain.as_unit name) deck))
bytes_told name None = refl
bytes_told name (Some d) = refl
