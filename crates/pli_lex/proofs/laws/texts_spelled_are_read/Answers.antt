use Rattle.pli_lex.proofs.SpelledAndRead.{text_is_read}
use Rattle.pli_lex.proofs.laws.texts_spelled_are_read.Goals as goal

pub returns : goal.returns
returns c = text_is_read
