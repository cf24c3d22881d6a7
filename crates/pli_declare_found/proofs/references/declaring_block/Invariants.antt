use Rattle.std.proofs.Common.{◌≡◌, Some, IfSome}
use Rattle.pli_declare_constructs.specs.Regions.{innermost}
use Rattle.pli_declare_scopes.specs.answers.Leaps.{rank}
use Rattle.pli_declare_found.proofs.references.declaring_block.Given as goal

-- where it is, is a block
abbrev pub invariant-loop-here : goal.invariant-loop-here
invariant-loop-here l = IfSome l.here (λ b. innermost l.nesting b ≡ Some b)

abbrev pub decreases-loop-here : goal.decreases-loop-here
decreases-loop-here l = rank l.here
