use Rattle.pli_parse.proofs.StatementSpelledUnits.{at_most_one}
use Rattle.pli_parse.proofs.spelling.one_unit.Goals as goal

pub returns : goal.returns
returns c = at_most_one
