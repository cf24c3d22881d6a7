use Rattle.std.proofs.Common.{sym}
use Rattle.pli_parse_statement.proofs.StatementTexts.{text_found, no_text}
use Rattle.pli_parse_statement.proofs.first.text_of.Goals as goal

pub returns-in_err-end : goal.returns-in_err-end
returns-in_err-end c = rw c.from_residual.ensures (no_text c.args.texts.now (sym c.in_err-end.ensures))

pub returns : goal.returns
returns c = rw c.split_at.ensures.front (text_found c.args.texts.now c.in_ok-end.end (sym c.in_ok-end.ensures))
