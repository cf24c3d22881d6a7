use Rattle.std.proofs.Common.{sym, subst}
use Rattle.pli_ledger.specs.Fits.{Fits}
use Rattle.pli_ledger.specs.Kept.{Ledger}
use Rattle.pli_refused_tests.proofs.tests.empty_ledger.Goals as goal

pub returns : goal.returns
returns c =
    subst (λ (l : Ledger). Fits l.units c.args._members.now) (sym c.new.ensures)
    (c.edits_keep_fits.ensures.nothing c.args._members.now)
