-- Which units a build has to expand and to compile, and what is kept after it (own). A unit is due where the
-- members answer a name of its trace otherwise than they did; it is stale where its token texts have no
-- result that is kept.
use Rattle.std.specs.Prelude.{Bool, true, false, not, Option, None, Some, map}
use Rattle.std.specs.List.{count_by}
use Rattle.pli_base.specs.Name.{Name}
use Rattle.pli_base.specs.Words.{Tokens}
use Rattle.pli_include.specs.Expanded.{Expanded, expansion_of}
use Rattle.pli_include.specs.Expanded.{holds}
use Rattle.pli_include.specs.declared.expansion.ExpansionFault.{ExpansionFault}
use Rattle.pli_members.specs.Members.{Store}
use Rattle.pli_meaning.specs.Scratch.{sources}
use Rattle.pli_ledger.specs.Kept.{Kept, Units, Ledger, kept_of}
use Rattle.pli_ledger.specs.SameTexts.{same_texts}

-- a unit is due that has no expansion, or one whose trace no longer holds
abbrev pub due_by : Store → Option Expanded → Bool
due_by s None = true
due_by s (Some e) = not (holds s e.trace)

-- the unit of a name is due
abbrev pub is_due : Units → Store → Name → Bool
is_due units s name = due_by s (kept_of units name).expansion

-- these texts are the ones that were compiled
abbrev pub is_compiled : Tokens → Option Tokens → Bool
is_compiled texts None = false
is_compiled texts (Some before) = same_texts before texts

-- a unit is stale whose expansion has no fault and other texts than were compiled
abbrev pub stale_by : Option ExpansionFault → Tokens → Option Tokens → Bool
stale_by (Some fault) texts compiled = false
stale_by None texts compiled = not (is_compiled texts compiled)

-- the unit of a name is stale
abbrev pub is_stale : Units → Store → Name → Bool
is_stale units s name =
    let e = expansion_of s name in stale_by e.fault e.texts (kept_of units name).compiled

-- what is compiled after a build: the texts; where the expansion has a fault what was before
abbrev pub compiled_by : Option ExpansionFault → Tokens → Option Tokens → Option Tokens
compiled_by (Some fault) texts before = before
compiled_by None texts before = Some texts

-- what is kept of a unit of this expansion
abbrev pub kept_after : Expanded → Kept → Kept
kept_after e before =
    record { expansion = Some e; compiled = compiled_by e.fault e.texts before.compiled }

-- what is kept after a build of the members: of each SOURCE member, and of nothing else
abbrev pub after : Units → Store → Units
after units s =
    map (λ name. (name, kept_after (expansion_of s name) (kept_of units name))) (sources s.entries)

-- the ledger after a build of the members: how many units were due, and how many stale
abbrev pub ledger_after : Ledger → Store → Ledger
ledger_after l s =
    record {
      units = after l.units s;
      expanded = count_by (is_due l.units s) (sources s.entries);
      compiled = count_by (is_stale l.units s) (sources s.entries);
    }
