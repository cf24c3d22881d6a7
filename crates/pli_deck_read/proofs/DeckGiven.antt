-- What a deck that is read, or bytes that spell one, say of each other.
use Rattle.std.proofs.Common.{ℕ, List, Result, Ok, Err, IfOk, subst}
use Rattle.pli_code.specs.CodeTables as plain
use Rattle.pli_code.specs.declared.code.Deck.{Deck}
use Rattle.pli_code.specs.views.CodeView.{deck_view}
use Rattle.pli_code.specs.Fields.{AreBytes}
use Rattle.pli_deck_write.specs.Spelling.{SpellsDeck, deck_read}
use Rattle.pli_deck_write.proofs.SpellingLaws.{read_is_spelled, spelled_is_read}
use Rattle.pli_base.specs.answers.FailureAnswers.{Gives}
use Rattle.pli_base.specs.declared.failure.Failure.{Failure}
use Rattle.pli_code.specs.declared.fault.DeckFault.{DeckFault}

pub spelled_if_read : (bytes : List ℕ) (result : Result Deck (Failure DeckFault)) → AreBytes bytes → Gives deck_view result (deck_read bytes) → IfOk result (λ d. SpellsDeck bytes (deck_view d))
spelled_if_read bytes (Ok d) fits given = read_is_spelled bytes (deck_view d) fits given
spelled_if_read bytes (Err e) fits given = tt

pub read_if_spelled : (bytes : List ℕ) (result : Result Deck (Failure DeckFault)) (d : plain.Deck) → SpellsDeck bytes d → Gives deck_view result (deck_read bytes) → Gives deck_view result (Ok d)
read_if_spelled bytes result d spells given = subst (λ read. Gives deck_view result read) (spelled_is_read bytes d spells) given
