-- The bytes of the decks of a module's units.
use Rattle.std.specs.Prelude.{◌≡◌, ℕ, List, map}
use Rattle.pli_code.specs.Modules.{Member}
use Rattle.pli_deck_write.specs.Spelling.{deck_bytes}

-- these are the bytes of the decks, one after another
abbrev pub AreDecks : List (List ℕ) → List Member → Type 0
AreDecks decks units = decks ≡ map (λ u. deck_bytes u.deck) units
