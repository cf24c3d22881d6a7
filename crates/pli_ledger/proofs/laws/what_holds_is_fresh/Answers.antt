use Rattle.pli_ledger.proofs.HeldIsFresh.{what_holds_is_fresh}
use Rattle.pli_ledger.proofs.laws.what_holds_is_fresh.Goals as goal

pub returns : goal.returns
returns c = what_holds_is_fresh
