use Rattle.std.proofs.Common.{◌≡◌, ◌+◌, false, eqb, ◌&&◌, get_or, sym, arith}
use Rattle.pli_lex.proofs.ClosingFound.{closes_here, closes_after, closes_nowhere, not_both, not_first}
use Rattle.pli_lex.proofs.piece.closing_width.Goals as goal
use Rattle.pli_lex.proofs.piece.closing_width.Goals.{else-text-at-eq42-via-then-text-at-eq42+else-text-at-eq47, else-text-at-eq42-via-else-text-at-eq42}

pub returns-then-text-at-eq47 : goal.returns-then-text-at-eq47
returns-then-text-at-eq47 c = sym (closes_here c.args.text.now c.loop-at.at c.loop-at-test.true c.if-text-at-eq42.true c.if-text-at-eq47.true c.loop-at.invariant.first)

pub loop-at-preserved : goal.loop-at-preserved
loop-at-preserved c =
    let text = c.args.text.now in
    let not_here : (eqb (get_or text c.loop-at.at 0) 42 && eqb (get_or text (c.loop-at.at + 1) 0) 47) ≡ false =
    elim c.else-text-at-eq42.branch [
      | else-text-at-eq42-via-then-text-at-eq42+else-text-at-eq47 w ↦ not_both _ _ w.if-text-at-eq47.false
      | else-text-at-eq42-via-else-text-at-eq42 w ↦ not_first _ _ w.if-text-at-eq42.false
    ] in
    record { within = omega arith; first = closes_after text c.loop-at.at c.loop-at-test.true not_here c.loop-at.invariant.first }

pub returns : goal.returns
returns c = sym (closes_nowhere c.args.text.now c.loop-at.at c.loop-at-test.false c.loop-at.invariant.first)
