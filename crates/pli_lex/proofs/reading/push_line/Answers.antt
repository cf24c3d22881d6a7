use Rattle.std.proofs.Common.{sym}
use Rattle.std.proofs.lemmas.Bool.{eqb-true}
use Rattle.pli_lex.proofs.PiecesPassed.{line_is_passed}
use Rattle.pli_lex.proofs.reading.push_line.Goals as goal

pub returns : goal.returns
returns c =
    line_is_passed c.loop-rest.tokens.items c.args.tokens.now.items c.loop-rest.began c.args.began c.args.number c.loop-rest.rest.now c.args.text.now (eqb-true _ _ (sym c.loop-rest-test.ensures)) c.loop-rest.invariant
