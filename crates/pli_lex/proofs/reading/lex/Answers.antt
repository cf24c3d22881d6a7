use Rattle.std.proofs.Common.{◌+◌}
use Rattle.pli_lex.specs.Reading.{lexed}
use Rattle.pli_lex.proofs.PiecesPassed.{lines_end, lines_end_open}
use Rattle.pli_lex.proofs.reading.lex.Goals as goal

pub returns-in-None : goal.returns-in-None
returns-in-None c =
    lines_end c.args.lines.now c.loop-line.line-index (c.loop-line.number + 1) c.loop-line.began c.loop-line.tokens.items (lexed c.args.lines.now) c.loop-line-test.false c.loop-line.invariant.read c.in-None.is

pub returns-in-Some : goal.returns-in-Some
returns-in-Some c =
    lines_end_open c.args.lines.now c.loop-line.line-index (c.loop-line.number + 1) c.in-Some.line c.loop-line.began c.loop-line.tokens.items (lexed c.args.lines.now) c.loop-line-test.false c.loop-line.invariant.read c.in-Some.is
