-- Proved answers of `tokens_of_trees_rise` (src/laws.rt).
use Rattle.pli_parse_expression.proofs.TokensRise.{expression_read_rises, reference_read_rises}
use Rattle.pli_parse_expression.proofs.laws.tokens_of_trees_rise.Goals as goal

pub returns : goal.returns
returns c =
    record {
      expressions = expression_read_rises;
      references = reference_read_rises;
    }
