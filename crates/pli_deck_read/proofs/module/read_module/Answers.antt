use Rattle.pli_deck_read.proofs.ModuleGiven.{spelled_if_read, read_if_spelled}
use Rattle.pli_deck_read.proofs.module.read_module.Goals as goal

pub returns-clause-read : goal.returns-clause-read
returns-clause-read c = spelled_if_read c.args.bytes.now c.read.result c.read.ensures.bytes c.read.ensures.exact

pub returns-clause-spelled : goal.returns-clause-spelled
returns-clause-spelled c = λ m spells. read_if_spelled c.args.bytes.now c.read.result m spells c.read.ensures.exact
