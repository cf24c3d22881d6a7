-- Linked modules: which bytes spell them, and which decks they have.
use Rattle.std.specs.Prelude.{◌≡◌, ◌≤◌, ◌<◌, true, Ok, List, length, map}
use Rattle.std.specs.List.{AllByRecursion}
use Rattle.pli_deck_write.specs.DeckFields.{name}
use Rattle.pli_deck_write.specs.ModuleSpelling.{module_bytes, SpellsModule}
use Rattle.pli_deck_write.specs.Spelling.{IsDeck, deck_bytes}
use Rattle.pli_link.specs.LinkedModule.{link_of}
use Rattle.pli_link.specs.Units.{Compiled, AreWritten}
use Rattle.pli_code.specs.Modules.{Member, Module}

-- a unit of a module, where a number of four bytes can count the bytes of its deck
abbrev pub HasShortDeck : Member → Type 0
HasShortDeck u = length (deck_bytes u.deck) < 4294967296

-- one whose name and deck have a spelling, the deck in so few bytes
pub record IsSaidAlone (u : Member) : Type 0 where
  pub named : name.fits u.name ≡ true
  pub is_deck : IsDeck u.deck
  pub short : HasShortDeck u

-- what linking gives of units that have a spelling each, in the version in which modules are written, is
-- spelled by its bytes: the linker's own faults say the rest
abbrev pub LinkedModulesAreSpelled : Type 0
LinkedModulesAreSpelled =
    (cs : List Compiled) (m : Module) → AreWritten cs → link_of cs ≡ Ok m → length cs ≤ 999
    → AllByRecursion IsSaidAlone m.units → SpellsModule (module_bytes m) m

-- the decks of the module that linking gives are those of the compiled units, whole and in order: linking
-- takes nothing from a unit's deck and adds nothing to it
abbrev pub LinkingKeepsDecks : Type 0
LinkingKeepsDecks =
    (cs : List Compiled) (m : Module) → link_of cs ≡ Ok m
    → map (λ (u : Member). u.deck) m.units ≡ map (λ (c : Compiled). c.deck) cs
