use Rattle.std.proofs.Common.{◌≡◌}
use Rattle.std.specs.Vec.{vec_capacity}
use Rattle.pli_declare_scopes.specs.answers.Leaps.{rank}
use Rattle.pli_declare_scopes.proofs.ReachesKept.{Closing}
use Rattle.pli_declare_scopes.proofs.reach.close.Given as goal

abbrev pub invariant-loop-at : goal.invariant-loop-at
invariant-loop-at l = Closing l.items l.initial.lasts.items l.owner l.lasts.items l.at × (vec_capacity l.lasts ≡ vec_capacity l.initial.lasts)

abbrev pub decreases-loop-at : goal.decreases-loop-at
decreases-loop-at l = rank l.at
