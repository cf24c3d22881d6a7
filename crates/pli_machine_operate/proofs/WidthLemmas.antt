-- Numbers of 64 bits have at most 64 binary digits.
use Rattle.std.proofs.Common.{◌≡◌, ℕ, suc, ◌^◌, ◌≤◌, ℤ, pos, negsuc, true, Ok, SFits, w64, ap, arith, if◌then◌else◌, Err}
use Rattle.std.proofs.Math.Nat.{pow-le-pow_right}
use Rattle.std.proofs.lemmas.Bool.{lt-ltb}
use Rattle.pli_value.specs.Numbers.{has_digits, within}
use Rattle.pli_value.specs.declared.number.Raised.TheVariants.{Overflow}

wide_digits : (p : ℕ) (z : ℤ) → 64 ≤ p → SFits w64 z → has_digits p z ≡ true
wide_digits p (pos n) wide fits =
    lt-ltb n (2 ^ p) (let more : 2 ^ 64 ≤ 2 ^ p = pow-le-pow_right (omega arith) wide in omega (arith, fits.sfits, more))
wide_digits p (negsuc n) wide fits =
    lt-ltb (suc n) (2 ^ p) (let more : 2 ^ 64 ≤ 2 ^ p = pow-le-pow_right (omega arith) wide in omega (arith, fits.sfits, more))

pub wide_within : (p : ℕ) (z : ℤ) → 64 ≤ p → SFits w64 z → within p z ≡ Ok z
wide_within p z wide fits = ap (λ b. if b then Ok z else Err Overflow) (wide_digits p z wide fits)
