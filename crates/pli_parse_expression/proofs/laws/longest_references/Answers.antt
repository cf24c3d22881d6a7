-- Proved answers of `longest_references` (src/laws.rt).
use Rattle.pli_parse_expression.proofs.SpelledIsRead.{reference_ends_read}
use Rattle.pli_parse_expression.proofs.ReadEnds.{reference_at_ends, reference_longest}
use Rattle.pli_parse_expression.proofs.laws.longest_references.Goals as goal

pub returns : goal.returns
returns c =
    record {
      ended = reference_ends_read;
      left = reference_at_ends;
      longest = reference_longest;
    }
