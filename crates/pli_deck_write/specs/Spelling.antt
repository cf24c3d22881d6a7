-- Which bytes spell a deck, and what reading them gives (own).
use Rattle.std.specs.Prelude.{◌≡◌, ℕ, Bool, List, None, Result, Ok, true}
use Rattle.pli_code.specs.declared.fault.DeckFault.{DeckFault}
use Rattle.pli_code.specs.Fields.{AreBytes}
use Rattle.pli_code.specs.Decks.{Deck}
use Rattle.pli_code.specs.declared.version.Version.{Version}
use Rattle.pli_deck_write.specs.DeckFields.{any_version, deck, deck_in_versions}
use Rattle.pli_deck_write.specs.DeckFaults.{fault_of}
use Rattle.pli_deck_write.specs.Whole.{whole_read}

-- the bytes that a deck is written as
abbrev pub deck_bytes : Deck → List ℕ
deck_bytes d = deck.bytes_of d

-- decks that have a spelling: all numbers are in their ranges, and name what is there
pub record IsDeck (d : Deck) : Type 0 where
  pub fits : deck.fits d ≡ true
  pub faultless : fault_of d ≡ None

-- bytes spell a deck that has a spelling
pub record SpellsDeck (bytes : List ℕ) (d : Deck) : Type 0 where
  pub is_deck : IsDeck d
  pub spelled : bytes ≡ deck_bytes d

-- the deck that bytes spell in a version that may stand there, or the first fault
unfoldable pub deck_read_in : (may_stand : Version → Bool) → List ℕ → Result Deck DeckFault
deck_read_in may_stand bytes = whole_read fault_of (deck_in_versions may_stand) bytes

-- the deck that bytes spell, or the first fault
abbrev pub deck_read : List ℕ → Result Deck DeckFault
deck_read bytes = deck_read_in any_version bytes

-- a deck that is read is spelled by what it is read from
abbrev pub ReadIsSpelled : Type 0
ReadIsSpelled =
    (bytes : List ℕ) (d : Deck) → AreBytes bytes → deck_read bytes ≡ Ok d → SpellsDeck bytes d

-- a deck is read from bytes that spell it
abbrev pub SpelledIsRead : Type 0
SpelledIsRead = (bytes : List ℕ) (d : Deck) → SpellsDeck bytes d → deck_read bytes ≡ Ok d

-- a deck has one spelling
abbrev pub OneSpelling : Type 0
OneSpelling = (s t : List ℕ) (d : Deck) → SpellsDeck s d → SpellsDeck t d → s ≡ t

-- bytes spell one deck at most
abbrev pub OneDeck : Type 0
OneDeck = (bytes : List ℕ) (d e : Deck) → SpellsDeck bytes d → SpellsDeck bytes e → d ≡ e
