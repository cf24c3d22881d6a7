use Rattle.std.proofs.Common.{sym, ◌∙◌}
use Rattle.pli_ledger.proofs.UnitKept.{forgotten}
use Rattle.pli_ledger.proofs.kept.needed_before.Goals as goal

pub returns-then-is_compiled : goal.returns-then-is_compiled
returns-then-is_compiled c = forgotten c.args.last.now _ c.args.before c.args.compiled.now c.in-Some.is (sym c.is_compiled.ensures ∙ c.if-is_compiled.true)
