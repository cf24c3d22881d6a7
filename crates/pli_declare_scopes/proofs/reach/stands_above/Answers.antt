use Rattle.std.proofs.Common.{◌≤◌, IfSome, sym, subst}
use Rattle.std.proofs.lemmas.Bool.Decides.{leb_tells}
use Rattle.pli_declare_scopes.proofs.ChainLemmas.{none_is}
use Rattle.pli_declare_scopes.proofs.StandsAbove.{none_above, reaches_on, end_tells}
use Rattle.pli_declare_scopes.proofs.reach.stands_above.Goals as goal

pub returns-in_default : goal.returns-in_default
returns-in_default c = λ items name owners kept lt counts is.
    none_above items owners c.args.lasts.now c.args.tops.now kept name c.args.place lt counts c.args.last is (none_is c.args.last c.in_default.not-Some)

pub returns-in-None : goal.returns-in-None
returns-in-None c = λ items name owners kept lt counts is.
    reaches_on items owners c.args.lasts.now c.args.tops.now kept name c.args.place lt counts c.args.last is c.in-Some.last c.in-Some.is
    (subst (λ o. IfSome o (λ end. c.args.place ≤ end)) (sym c.in-None.is) tt)

pub returns-in-Some-lasts : goal.returns-in-Some-lasts
returns-in-Some-lasts c = λ items name owners kept lt counts is.
    let end = c.in-Some-lasts.end in
    end_tells items owners c.args.lasts.now c.args.tops.now kept name c.args.place lt counts c.args.last is c.in-Some.last c.in-Some.is
    end c.in-Some-lasts.is _ (leb_tells c.args.place end)
