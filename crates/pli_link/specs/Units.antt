-- Compiled units (own).
use Rattle.std.specs.Prelude.{◌≡◌, List}
use Rattle.std.specs.List.{AllByRecursion}
use Rattle.pli_base.specs.Name.{Name}
use Rattle.pli_code.specs.Decks.{Deck}
use Rattle.pli_code.specs.Versions.{written}
use Rattle.pli_link.specs.declared.units.LinkedName.{LinkedName}

-- a unit that has been compiled: the name of its member, and its deck; tokens do not tell what their member
-- is called
pub record Compiled : Type 0 where
  pub unit : Name
  pub deck : Deck

-- a deck with the name of its member
abbrev pub as_unit : (unit : Name) → Deck → Compiled
as_unit unit deck = record { unit = unit; deck = deck }

-- the name of a unit's procedure, with the unit
abbrev pub procedure_of : Compiled → LinkedName
procedure_of c = record { name = c.deck.name; unit = c.unit }

-- the decks of units are of the version in which modules are written
abbrev pub AreWritten : List Compiled → Type 0
AreWritten cs = AllByRecursion (λ c. c.deck.version ≡ written) cs
