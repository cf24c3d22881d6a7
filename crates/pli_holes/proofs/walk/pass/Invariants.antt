use Rattle.std.proofs.Common.{◌-◌, List, length}
use Rattle.pli_region.specs.Words.{word_at}
use Rattle.pli_holes.specs.declared.hole.Hole.{Hole}
use Rattle.pli_holes.specs.Holes.{Spells}
use Rattle.pli_holes.specs.Steps.{HasPassed}
use Rattle.pli_holes.proofs.walk.pass.Given as goal

-- whatever holes the chain spells, those before this place were passed
abbrev pub invariant-loop-at : goal.invariant-loop-at
invariant-loop-at l = (holes : List Hole) → Spells l.region l.first holes → HasPassed (word_at l.region) (length l.region) l.first l.until l.room holes l.before l.at l.passed

abbrev pub decreases-loop-at : goal.decreases-loop-at
decreases-loop-at l = l.until - l.at
