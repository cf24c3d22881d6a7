use Rattle.pli_deck_read.proofs.DeckGiven.{spelled_if_read, read_if_spelled}
use Rattle.pli_deck_read.proofs.read.read_deck.Goals as goal

pub returns-clause-read : goal.returns-clause-read
returns-clause-read c = spelled_if_read c.args.bytes.now c.read.result c.read.ensures.bytes c.read.ensures.exact

pub returns-clause-spelled : goal.returns-clause-spelled
returns-clause-spelled c = λ d spells. read_if_spelled c.args.bytes.now c.read.result d spells c.read.ensures.exact
