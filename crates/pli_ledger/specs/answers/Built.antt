-- What a build answers, apart from where it lies in memory.
use Rattle.std.specs.Prelude.{◌≡◌, ℕ, List, Option, Some, None}
use Rattle.pli_base.specs.Name.{Name}
use Rattle.pli_code.specs.ModuleParts.{Module}
use Rattle.pli_deck_write.specs.ModuleSpelling.{SpellsModule}
use Rattle.pli_ledger.specs.declared.outcome.Outcome.{Outcome}
use Rattle.pli_ledger.specs.declared.outcome.Outcome.TheVariants as outcomes
use Rattle.pli_ledger.specs.declared.stored.StoredModule.{StoredModule}
use Rattle.pli_meaning.specs.Scratch.{scratch, Diagnosed, Made}
use Rattle.pli_members.specs.Members.{Member}

-- bytes spell the module that members give
pub record IsOfMembers (entries : List (Name × Member)) (bytes : List ℕ) : Type 0 where
  pub made : Module
  pub is : scratch entries ≡ Made made
  pub spelled : SpellsModule bytes made

-- a text of diagnostics, or the bytes of a module
abbrev pub IsBuilt : List (Name × Member) → Outcome → Type 0
IsBuilt entries (outcomes.Diagnostics text) = scratch entries ≡ Diagnosed text.bytes.items
IsBuilt entries (outcomes.Module m) = IsOfMembers entries m.bytes.items

-- the module that stands, if one does, is that of members
abbrev pub IsStanding : List (Name × Member) → Option StoredModule → Type 0
IsStanding entries None = Unit {0}
IsStanding entries (Some m) = IsOfMembers entries m.bytes.items
