use Rattle.std.proofs.Common.{◌≡◌, ℕ, nat_eq, unwrap_or, drop}
use Rattle.std.specs.HashMap.{get}
use Rattle.pli_gen.specs.answers.Pieces.{first_step}
use Rattle.pli_gen.proofs.gotos.step_places.Given as goal

-- what has begun so far, and what begins in the code that is left
abbrev pub invariant-loop-place : goal.invariant-loop-place
invariant-loop-place l = (n : ℕ) → unwrap_or (get nat_eq l.places n) (first_step (drop l.place l.code) l.place n 0) ≡ first_step l.code 0 n 0
