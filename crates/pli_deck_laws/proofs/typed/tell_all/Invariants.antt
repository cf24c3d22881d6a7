use Rattle.std.proofs.Common.{map, drop}
use Rattle.std.specs.List.{AllByRecursion}
use Rattle.pli_deck_laws.proofs.typed.tell_all.Given as goal

-- if it holds of what is left, it holds of all
abbrev pub invariant-loop-value : goal.invariant-loop-value
invariant-loop-value g l =
    AllByRecursion g.T.Tells.Holds (map g.T.Tells.say (drop l.value-index l.values))
    → AllByRecursion g.T.Tells.Holds (map g.T.Tells.say l.values)
