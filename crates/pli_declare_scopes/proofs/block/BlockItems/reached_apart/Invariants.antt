use Rattle.std.proofs.Common.{Some}
use Rattle.pli_declare_scopes.specs.answers.Reaches.{IsReach}
use Rattle.pli_declare_scopes.proofs.block.BlockItems.reached_apart.Given as goal

abbrev pub invariant-loop-at : goal.invariant-loop-at
invariant-loop-at l = IsReach l.self l.names l.number (Some l.bound)
