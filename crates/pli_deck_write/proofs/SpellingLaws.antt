-- Decks are read as they are spelled.
use Rattle.std.proofs.Common.{sym, ◌∙◌}
use Rattle.pli_deck_write.specs.DeckFields.{any_version, deck}
use Rattle.pli_deck_write.specs.DeckFaults.{fault_of}
use Rattle.pli_deck_write.specs.Spelling.{deck_read_in, ReadIsSpelled, SpelledIsRead, OneSpelling, OneDeck}
use Rattle.pli_code.proofs.FieldLaws.{ok_is}
use Rattle.pli_deck_write.proofs.DeckLaws.{deck_law}
use Rattle.pli_deck_write.proofs.WholeLaws.{taken_whole, read_again}

pub read_is_spelled : ReadIsSpelled
unfolding deck_read_in
read_is_spelled bytes d b e =
    let t = taken_whole fault_of deck (deck_law any_version) bytes d b e in
    record { is_deck = record { fits = t.fits; faultless = t.faultless }; spelled = t.spelled }

pub spelled_is_read : SpelledIsRead
unfolding deck_read_in
spelled_is_read bytes d s =
    read_again fault_of deck (deck_law any_version) bytes d (record { fits = s.is_deck.fits; faultless = s.is_deck.faultless; spelled = s.spelled })

pub one_spelling : OneSpelling
one_spelling s t d p q = p.spelled ∙ sym q.spelled

pub one_deck : OneDeck
one_deck bytes d e p q = ok_is d e (sym (spelled_is_read bytes d p) ∙ spelled_is_read bytes e q)
