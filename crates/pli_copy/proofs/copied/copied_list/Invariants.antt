use Rattle.std.proofs.Common.{◌≡◌, take, map}
use Rattle.pli_copy.proofs.copied.copied_list.Given as goal

abbrev pub invariant-loop-item : goal.invariant-loop-item
invariant-loop-item g l = map g.T.Copied.view l.copied.items ≡ map g.T.Copied.view (take l.item-index l.list)
