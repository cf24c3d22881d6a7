-- What is kept of units from one build to the next (own): for each SOURCE member its expansion, and the token
-- texts of which there is a result.
use Rattle.std.specs.Prelude.{ℕ, Option, None, List, [], unwrap_or}
use Rattle.std.specs.Map.{lookup}
use Rattle.pli_base.specs.Name.{Name}
use Rattle.pli_base.specs.Words.{Tokens}
use Rattle.pli_include.specs.Expanded.{Expanded}
use Rattle.pli_members.specs.Members.{is_named}

-- what is kept of one unit: an expansion, and the token texts that were compiled; what they were compiled to
-- is kept too, and is said by the texts
pub record Kept : Type 0 where
  pub expansion : Option Expanded
  pub compiled : Option Tokens

-- of each unit by its name
abbrev pub Units : Type 0
Units = List (Name × Kept)

-- nothing is kept
abbrev pub nothing_kept : Kept
nothing_kept = record { expansion = None; compiled = None }

-- what is kept of the unit of a name, or nothing
abbrev pub kept_of : Units → Name → Kept
kept_of units name = unwrap_or (lookup (is_named name) units) nothing_kept

-- a ledger: what is kept, and how many units the last build that was not refused has expanded and compiled
pub record Ledger : Type 0 where
  pub units : Units
  pub expanded : ℕ
  pub compiled : ℕ

-- a ledger that keeps nothing, before the first build
abbrev pub empty_ledger : Ledger
empty_ledger = record { units = []; expanded = 0; compiled = 0 }
