use Rattle.std.proofs.Common.{◌<◌, ◌≤◌, ◌^◌, ℕ, arith, lit<}
use Rattle.std.proofs.Math.Nat.{pow-le-pow_right}
use Rattle.pli_base.proofs.character.decimal_value.Goals as goal

-- with a digit more, the value of at most 18 digits is below ten to the 19th power
below : (i value : ℕ) → i < 19 → value < 10 ^ i → value < 10 ^ 18
below i value few h = let more : i ≤ 18 = omega arith in omega (arith, pow-le-pow_right {n = 10} (lit< tt) {i = i} {j = 18} more)

pub overflow_mul-value : goal.overflow_mul-value
overflow_mul-value c = let h = below c.loop-digit.digit-index c.loop-digit.value (omega arith) c.loop-digit.invariant.below in omega (arith, h)

pub overflow_add-value : goal.overflow_add-value
overflow_add-value c = let h = below c.loop-digit.digit-index c.loop-digit.value (omega arith) c.loop-digit.invariant.below in omega (arith, h)
