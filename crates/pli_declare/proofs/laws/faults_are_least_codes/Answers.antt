use Rattle.pli_declare.proofs.FaultsAreExact.{faults_are_least_codes}
use Rattle.pli_declare.proofs.laws.faults_are_least_codes.Goals as goal

pub returns : goal.returns
returns c = faults_are_least_codes
