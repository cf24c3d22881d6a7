use Rattle.std.proofs.Common.{◌≡◌, take, map}
use Rattle.pli_code.proofs.copying.copied_table.Given as goal

abbrev pub invariant-loop-entry : goal.invariant-loop-entry
invariant-loop-entry g l = map g.T.TableEntry.view l.copied.items ≡ map g.T.TableEntry.view (take l.entry-index l.table)
