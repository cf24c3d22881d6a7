-- What DUMP shows (own): the bytes spell the module of the members, and no other.
use Rattle.std.specs.Prelude.{◌≡◌, true}
use Rattle.pli_bench.specs.Session.{State}
use Rattle.pli_code.specs.Modules.{Module}
use Rattle.pli_deck_write.specs.ModuleBytes.{module_written}
use Rattle.pli_deck_write.specs.ModuleSpelling.{SpellsModule}
use Rattle.pli_meaning.specs.Scratch.{scratch, Made}

-- the members make a module, which fits, has no fault, and is spelled by the bytes that are written
pub record IsShown (s : State) : Type 0 where
  pub made : Module
  pub is : scratch s.store.entries ≡ Made made
  pub spelled : SpellsModule (module_written made) made

-- so it is where a module stands
abbrev pub ShowsModule : State → Type 0
ShowsModule s = s.stands ≡ true → IsShown s
