use Rattle.std.proofs.Common.{take}
use Rattle.std.specs.Prelude.{reverse}
use Rattle.pli_declare_scopes.specs.answers.Paths.{Spells}
use Rattle.pli_declare_scopes.proofs.block.BlockItems.found_fully.Given as goal

abbrev pub invariant-loop-name : goal.invariant-loop-name
invariant-loop-name l = Spells l.self-inside.steps.keys l.above (reverse (take l.name-index l.names))
