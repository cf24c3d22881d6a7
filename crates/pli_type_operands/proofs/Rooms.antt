-- What types have room for.
use Rattle.std.proofs.Common.{◌≡◌, ℕ, ◌^◌, ◌<◌, ◌≤◌, min, List, length, take, arith}
use Rattle.std.proofs.lemmas.List.{length-take, take_min}
use Rattle.std.proofs.Math.Nat.{pow-le-pow_right}
use Rattle.pli_type_tree.specs.ValueTypes.{longest}

-- so many digits have a power within 64 bits
pub few_digits : (digits : ℕ) → digits ≤ 63 → 2 ^ digits < 2 ^ 64
few_digits digits few = omega (arith, pow-le-pow_right {n = 2} (omega arith) {i = digits} {j = 63} few)

-- the front of a string
pub front_taken : {A : Type 0} (xs : List A) → take (min longest (length xs)) xs ≡ take longest xs
front_taken xs = take_min longest xs

pub front_short : {A : Type 0} (xs : List A) → length (take longest xs) ≤ longest
front_short xs = omega (arith, length-take longest xs)
