use Rattle.pli_parse.proofs.StatementSpelledUnits.{unit_again}
use Rattle.pli_parse.proofs.spelling.units_spelled_are_read.Goals as goal

pub returns : goal.returns
returns c = unit_again
