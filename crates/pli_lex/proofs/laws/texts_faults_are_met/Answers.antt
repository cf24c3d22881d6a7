use Rattle.pli_lex.proofs.FaultsMet.{fault_is_met}
use Rattle.pli_lex.proofs.laws.texts_faults_are_met.Goals as goal

pub returns : goal.returns
returns c = fault_is_met
