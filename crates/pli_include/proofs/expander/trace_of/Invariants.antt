use Rattle.std.proofs.Common.{◌≡◌, map, take}
use Rattle.pli_include.specs.Expanded.{answered}
use Rattle.pli_include.proofs.expander.trace_of.Given as goal

abbrev pub invariant-loop-name : goal.invariant-loop-name
invariant-loop-name l = l.trace.items ≡ map (answered l.members) (take l.name-index l.names)
