-- Proved answers of `tokens_of_units_rise` (src/laws.rt).
use Rattle.pli_parse.proofs.StatementTokens.{unit_read_rises, statement_read_rises}
use Rattle.pli_parse.proofs.laws.tokens_of_units_rise.Goals as goal

pub returns : goal.returns
returns c =
    record {
      units = unit_read_rises;
      statements = statement_read_rises;
    }
