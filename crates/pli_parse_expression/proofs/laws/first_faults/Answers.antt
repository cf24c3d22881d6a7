-- Proved answers of `first_faults` (src/laws.rt).
use Rattle.pli_parse_expression.proofs.ReadStops.{expression_first_fault, reference_first_fault}
use Rattle.pli_parse_expression.proofs.ReadStops.{expression_place, reference_place}
use Rattle.pli_parse_expression.proofs.laws.first_faults.Goals as goal

pub returns : goal.returns
returns c =
    record {
      expressions = expression_first_fault;
      references = reference_first_fault;
      one_place = expression_place;
      one_place_of_reference = reference_place;
    }
