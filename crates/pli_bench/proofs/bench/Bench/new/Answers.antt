use Rattle.std.proofs.Common.{sym, subst}
use Rattle.pli_ledger.specs.Fits.{Fits}
use Rattle.pli_ledger.specs.Kept.{Ledger}
use Rattle.pli_bench.proofs.bench.Bench.new.Goals as goal

pub invariant_of-result : goal.invariant_of-result
invariant_of-result c =
    (record {}, subst (λ (l : Ledger). Fits l.units c.new.result) (sym c.new-2.ensures) (c.edits_keep_fits.ensures.nothing c.new.result))
