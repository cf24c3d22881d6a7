use Rattle.pli_lex.proofs.SpelledAndRead.{lines_faults_are_met}
use Rattle.pli_lex.proofs.laws.lines_faults_are_met.Goals as goal

pub returns : goal.returns
returns c = lines_faults_are_met
