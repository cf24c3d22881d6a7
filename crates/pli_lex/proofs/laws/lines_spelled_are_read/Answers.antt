use Rattle.pli_lex.proofs.SpelledAndRead.{lines_are_read}
use Rattle.pli_lex.proofs.laws.lines_spelled_are_read.Goals as goal

pub returns : goal.returns
returns c = lines_are_read
