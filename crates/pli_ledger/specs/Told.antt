-- What is told of units by what is kept of them: their diagnostics, where the tokens of the expansion stand,
-- and their decks.
use Rattle.std.specs.Prelude.{ℕ, Option, None, Some, Result, Err, List, []}
use Rattle.std.specs.List.{flat_map}
use Rattle.pli_base.specs.Name.{Name}
use Rattle.pli_base.specs.Words.{Tokens}
use Rattle.pli_base.specs.declared.token.Origin.{Origin}
use Rattle.pli_include.specs.Expanded.{Expanded}
use Rattle.pli_include.specs.declared.expansion.ExpansionFault.{ExpansionFault}
use Rattle.pli_link.specs.Units.{Compiled}
use Rattle.pli_meaning.specs.Scratch.{Diagnostic, compiled_texts, diagnostics_in, one}
use Rattle.pli_meaning.specs.MemberParts.{deck_located, units_of}
use Rattle.pli_ledger.specs.Kept.{Kept, Units}

-- by a fault of the expansion, or by what the texts were compiled to
abbrev pub told_by : Name → List Origin → Option ExpansionFault → Option Tokens
    → Result Compiled (List Diagnostic)
told_by unit origins (Some fault) compiled = Err (one fault.code fault.origin)
told_by unit origins None None = Err []
told_by unit origins None (Some texts) = deck_located unit origins (compiled_texts texts)

-- by the expansion that is kept, if there is one
abbrev pub told_kept : Name → Option Expanded → Option Tokens → Result Compiled (List Diagnostic)
told_kept unit None compiled = Err []
told_kept unit (Some e) compiled = told_by unit e.origins e.fault compiled

-- the deck of a unit, or its diagnostics
abbrev pub told : Name × Kept → Result Compiled (List Diagnostic)
told u = told_kept u.0 u.1.expansion u.1.compiled

-- the lines of the diagnostics of units
abbrev pub kept_text : Units → List ℕ
kept_text units = flat_map (λ u. diagnostics_in u.0 (told u)) units

-- the units that have a deck
abbrev pub kept_units : Units → List Compiled
kept_units units = flat_map (λ u. units_of (told u)) units
