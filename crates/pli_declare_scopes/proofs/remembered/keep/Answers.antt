use Rattle.std.proofs.Common.{sym, subst}
use Rattle.pli_declare_scopes.specs.answers.Remembered.{AreRemembered}
use Rattle.pli_declare_scopes.proofs.RememberedLemmas.{one_more}
use Rattle.pli_declare_scopes.proofs.remembered.keep.Goals as goal

pub returns : goal.returns
returns c =
    λ find all e. subst (AreRemembered find) (sym c.in_ok-insert.ensures.entries)
    (one_more find c.args.remembered.now.entries c.args.names c.args.found all e)
