use Rattle.std.proofs.Common.{◌∙◌, sym, ap}
use Rattle.pli_ledger.specs.answers.Compiling.{unit_is_stale}
use Rattle.pli_ledger.proofs.UnitKept.{not_stale}
use Rattle.pli_ledger.proofs.kept.KeptUnit.recompile.Goals as goal

pub returns-in-None-clause-unit : goal.returns-in-None-clause-unit
returns-in-None-clause-unit c =
    let fresh = rw c.in-None.is at c.in_ok-fresh.ensures.fresh in
    c.forget_same.ensures ∙ not_stale c.args.self.now (sym (ap unit_is_stale c.self.view_is) ∙ fresh)
