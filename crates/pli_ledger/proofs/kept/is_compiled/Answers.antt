use Rattle.pli_ledger.proofs.UnitKept.{itself_compiled}
use Rattle.pli_ledger.proofs.kept.is_compiled.Goals as goal

pub returns-in-None : goal.returns-in-None
returns-in-None c = itself_compiled c.args.last.now c.args.before.now c.args.compiled.now _ c.in-Some.is c.in-None.is
