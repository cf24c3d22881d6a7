-- Tokens below a bound.
use Rattle.std.proofs.Common.{◌+◌, ◌≤◌, ◌<◌, ℕ, List, [], ◌∷◌, ◌++◌, arith}
use Rattle.pli_base.specs.TreeTokens.{Rises}
use Rattle.pli_base.specs.laws.TreeTokenLaws.{rises_up}

-- all of them stand before it
abbrev pub Below : (high : ℕ) → List ℕ → Type 0
Below high [] = Unit {0}
Below high (t ∷ ts) = (t < high) × Below high ts

pub rising_below : (ts : List ℕ) (low high : ℕ) → Rises low ts high → Below high ts
rising_below [] low high h = tt
rising_below (t ∷ ts) low high h =
    let up : t + 1 ≤ high = rises_up ts (t + 1) high h.1 in
    (omega (arith, up), rising_below ts (t + 1) high h.1)

pub below_left : (high : ℕ) (xs ys : List ℕ) → Below high (xs ++ ys) → Below high xs
below_left high [] ys h = tt
below_left high (x ∷ xs) ys h = (h.0, below_left high xs ys h.1)

pub below_right : (high : ℕ) (xs ys : List ℕ) → Below high (xs ++ ys) → Below high ys
below_right high [] ys h = h
below_right high (x ∷ xs) ys h = below_right high xs ys h.1
