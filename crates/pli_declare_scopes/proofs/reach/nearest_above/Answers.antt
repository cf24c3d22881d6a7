use Rattle.pli_declare_scopes.proofs.StandsAbove.{nearest_none, nearest_last}
use Rattle.pli_declare_scopes.proofs.reach.nearest_above.Goals as goal

pub returns-then-not-stands_above : goal.returns-then-not-stands_above
returns-then-not-stands_above c = λ items name owners kept lt counts is.
    nearest_none items owners c.args.lasts.now c.args.tops.now kept name c.args.place lt counts c.args.last is c.stands_above.result
    (c.stands_above.ensures items name owners kept lt counts is) c.if-not-stands_above.true

pub returns-in-Some : goal.returns-in-Some
returns-in-Some c = λ items name owners kept lt counts is.
    nearest_last items owners c.args.lasts.now c.args.tops.now kept name c.args.place lt counts c.args.last is c.stands_above.result
    (c.stands_above.ensures items name owners kept lt counts is) c.if-not-stands_above.false
    c.in-Some.last c.in-Some.is (c.reaches.ensures c.if-reaches.true)
