-- The stack of the test for an assignment, and where its moves lead.
use Rattle.std.specs.Prelude.{Bool, false, List, [], ◌∷◌, Option, Some, None}
use Rattle.pli_parse_expression.specs.declared.assignment.State.{State}
use Rattle.pli_parse_expression.specs.declared.assignment.Frame.{Frame}

-- the frames on a stack whose top is its end, the innermost first, before others
abbrev pub onto : List Frame → List Frame → List Frame
onto [] fs = fs
onto (f ∷ more) fs = onto more (f ∷ fs)

-- where a move led, and the frames about it
abbrev pub answered : (more : State → Frame → List Frame → Bool) → List Frame → Option (State × Frame) → Bool
answered more fs None = false
answered more fs (Some x) = more x.0 x.1 fs
