-- Proved answers of `longest_expressions` (src/laws.rt).
use Rattle.pli_parse_expression.proofs.SpelledIsRead.{expression_ends_read}
use Rattle.pli_parse_expression.proofs.ReadEnds.{expression_at_ends, expression_longest}
use Rattle.pli_parse_expression.proofs.laws.longest_expressions.Goals as goal

pub returns : goal.returns
returns c =
    record {
      ended = expression_ends_read;
      left = expression_at_ends;
      longest = expression_longest;
    }
