-- The first word of a text, by the place of the first blank.
use Rattle.std.proofs.Common.{◌≡◌, ℕ, Bool, List, take, Some, None, ap, arith, take_all}
use Rattle.std.proofs.lemmas.Bool.Decides.{nat_tests}
use Rattle.std.specs.List.{position, position_or_len}

-- where no element passes, all of them stand before the first that does
pub before_none : (p : ℕ → Bool) (xs : List ℕ) → position p xs ≡ None → take (position_or_len p xs) xs ≡ xs
before_none p xs h = take_all (position_or_len p xs) xs (grind (arith, nat_tests))

pub before_some : (p : ℕ → Bool) (xs : List ℕ) (k : ℕ) → position p xs ≡ Some k → take (position_or_len p xs) xs ≡ take k xs
before_some p xs k h = let e : position_or_len p xs ≡ k = grind (arith, nat_tests) in ap (λ n. take n xs) e
