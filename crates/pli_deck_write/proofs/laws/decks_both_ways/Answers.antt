use Rattle.pli_deck_write.proofs.SpellingLaws.{read_is_spelled}
use Rattle.pli_deck_write.proofs.laws.decks_both_ways.Goals as goal

pub returns-clause-read : goal.returns-clause-read
returns-clause-read c = read_is_spelled
