-- Proved answers of `assignments_are_recognized` (src/laws.rt).
use Rattle.pli_parse_expression.proofs.AcceptedIsSpelled.{accepted_is_assignment}
use Rattle.pli_parse_expression.proofs.SpelledIsAccepted.{assignment_accepted}
use Rattle.pli_parse_expression.proofs.laws.assignments_are_recognized.Goals as goal

pub returns : goal.returns
returns c =
    record {
      accepted = accepted_is_assignment;
      spelled = assignment_accepted;
    }
