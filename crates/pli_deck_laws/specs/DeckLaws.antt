-- What a deck says of its unit: where units are well formed, no number is wider than its field, and the deck
-- is one that bytes spell.
use Rattle.std.specs.Prelude.{◌≡◌, ℕ, false, Some}
use Rattle.std.specs.List.{list_any}
use Rattle.pli_deck_write.specs.DeckFaults.{scalar_at}
use Rattle.pli_deck_write.specs.Spelling.{IsDeck}
use Rattle.pli_bytes.specs.Contents.{scalar_on, scalars_at}
use Rattle.pli_map.specs.Parts.{PlacedPart}
use Rattle.pli_deck_laws.specs.UnitTypes.{IsTypedDeck}
use Rattle.pli_deck_laws.specs.WellFormed.{IsWellFormed}
use Rattle.pli_gen_emit.specs.Encoding.{code_of}
use Rattle.pli_gen.specs.Limits.{is_over, has_many_slots, has_wide_number, is_too_long}
use Rattle.pli_gen.specs.WellNumbered.{IsWellNumbered}
use Rattle.pli_map.specs.Description.{Description}
use Rattle.pli_type_tree.specs.TypedTree.{TypedUnit}
use Rattle.pli_code.specs.CodeTables.{Code, Deck}
use Rattle.pli_code.specs.Versions.{written}

-- the scalar that begins on a byte is the one that decks find there
abbrev pub ScalarsAreFound : Type 0
ScalarsAreFound =
    (d : Description) (offset : ℕ) (s : PlacedPart) → scalar_on offset (scalars_at d) ≡ Some s
    → scalar_at d offset ≡ Some s.description

-- the globals, blocks and instructions of code, and the slots of each block, are within the limits of tables
pub record HasShortTables (c : Code) : Type 0 where
  pub globals : is_over c.globals ≡ false
  pub blocks : is_over c.blocks ≡ false
  pub instructions : is_over c.instructions ≡ false
  pub slots : list_any has_many_slots c.blocks ≡ false

-- where they are, the code of a unit that is numbered well and well formed has no number wider than its field
abbrev pub NumbersFit : Type 0
NumbersFit =
    (t : TypedUnit) → IsWellNumbered t → IsWellFormed t → HasShortTables (code_of t)
    → has_wide_number (code_of t) ≡ false

-- the deck of a unit that is numbered well, well formed and not too long is a deck, in the version in which
-- decks are written
abbrev pub UnitsAreSaid : Type 0
UnitsAreSaid =
    (t : TypedUnit) (d : Deck) → IsWellNumbered t → IsWellFormed t → is_too_long (code_of t) ≡ false
    → d.version ≡ written → d.code ≡ code_of t → IsTypedDeck d → IsDeck d
