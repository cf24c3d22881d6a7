-- Laws of tokens that rise.
use Rattle.std.specs.Prelude.{ℕ, ◌+◌, ◌≤◌, List, [], ◌∷◌, ◌++◌}
use Rattle.std.proofs.Common.{arith}
use Rattle.pli_base.specs.TreeTokens.{Rises}

-- between wider bounds
pub rises_within : (ts : List ℕ) (low least high most : ℕ) → least ≤ low → high ≤ most → Rises low ts high
    → Rises least ts most
rises_within [] low least high most below above h = omega arith
rises_within (t ∷ ts) low least high most below above h =
    (omega (arith, h.0), rises_within ts (t + 1) (t + 1) high most (omega arith) above h.1)

-- one list after the other
pub rises_on : (ts us : List ℕ) (low middle next high : ℕ) → middle ≤ next → Rises low ts middle
    → Rises next us high → Rises low (ts ++ us) high
rises_on [] us low middle next high between first second =
    rises_within us next low high high (omega arith) (omega arith) second
rises_on (t ∷ ts) us low middle next high between first second =
    (first.0, rises_on ts us (t + 1) middle next high between first.1 second)

-- the bounds rise too
pub rises_up : (ts : List ℕ) (low high : ℕ) → Rises low ts high → low ≤ high
rises_up [] low high h = h
rises_up (t ∷ ts) low high h = omega (arith, h.0, rises_up ts (t + 1) high h.1)
