-- Proved answers of `faults_stand_at_tokens` (src/laws.rt).
use Rattle.pli_parse_expression.proofs.ReadFaults.{expression_fault_stands, reference_fault_stands}
use Rattle.pli_parse_expression.proofs.laws.faults_stand_at_tokens.Goals as goal

pub returns : goal.returns
returns c =
    record {
      expressions = expression_fault_stands;
      references = reference_fault_stands;
    }
