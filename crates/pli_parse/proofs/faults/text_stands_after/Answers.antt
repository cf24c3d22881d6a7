-- Proved answers of `text_stands_after` (src/faults.rt).
use Rattle.pli_parse.proofs.UnitFaults.{text_after_told}
use Rattle.pli_parse.proofs.faults.text_stands_after.Goals as goal

pub returns-clause-told : goal.returns-clause-told
returns-clause-told c = text_after_told
