-- Parts of what a build has to do, as code and proofs go through them.
use Rattle.std.specs.Prelude.{ℕ, Bool, false, Option, None, Some, unwrap_or}
use Rattle.std.specs.List.{count_by}
use Rattle.pli_base.specs.Words.{Tokens}
use Rattle.pli_include.specs.Expanded.{Expanded}
use Rattle.pli_members.specs.Members.{Store}
use Rattle.pli_meaning.specs.Scratch.{sources}
use Rattle.pli_ledger.specs.Kept.{Kept, Units, nothing_kept}
use Rattle.pli_ledger.specs.Work.{compiled_by, is_due, is_stale, stale_by}

-- what is there, or nothing
abbrev pub or_nothing : Option Kept → Kept
or_nothing k = unwrap_or k nothing_kept

-- whether a unit is stale, by the expansion that is kept
abbrev pub stale_kept : Option Expanded → Option Tokens → Bool
stale_kept None compiled = false
stale_kept (Some e) compiled = stale_by e.fault e.texts compiled

-- what is compiled after a build, by the expansion that is kept
abbrev pub compiled_after : Option Expanded → Option Tokens → Option Tokens
compiled_after None before = before
compiled_after (Some e) before = compiled_by e.fault e.texts before

-- how many units are due
abbrev pub due_count : Units → Store → ℕ
due_count units s = count_by (is_due units s) (sources s.entries)

-- how many are stale
abbrev pub stale_count : Units → Store → ℕ
stale_count units s = count_by (is_stale units s) (sources s.entries)
