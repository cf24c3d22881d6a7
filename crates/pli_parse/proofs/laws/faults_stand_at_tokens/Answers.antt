-- Proved answers of `faults_stand_at_tokens` (src/laws.rt).
use Rattle.pli_parse.proofs.StatementFaultPlaces.{unit_fault_stands, statement_fault_stands}
use Rattle.pli_parse.proofs.laws.faults_stand_at_tokens.Goals as goal

pub returns : goal.returns
returns c =
    record {
      units = unit_fault_stands;
      statements = statement_fault_stands;
    }
