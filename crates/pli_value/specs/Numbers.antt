-- Numbers of FIXED BINARY and the operations on them (X3.74, ranges and MOD own). A number of p binary digits
-- lies from -(2^p - 1) to 2^p - 1.
use Rattle.std.specs.Prelude.{◌≡◌, ℕ, zero, suc, ◌^◌, nat_lt, Bool, ℤ, pos, negsuc, ◌+ℤ◌, ◌*ℤ◌, ◌≤ℤ◌}
use Rattle.std.specs.Prelude.{unsigned_abs, Result, Ok, Err, if◌then◌else◌}
use Rattle.std.specs.Prelude.{int_div, int_lt, int_le, neg_ℤ}
use Rattle.std.specs.Int.{int_rem_euclid}
use Rattle.pli_value.specs.declared.number.Raised.{Raised}
use Rattle.pli_value.specs.declared.number.Raised.TheVariants.{Overflow, ZeroDivide}

-- a number has at most so many binary digits
abbrev pub has_digits : (precision : ℕ) → ℤ → Bool
has_digits precision x = nat_lt (unsigned_abs x) (2 ^ precision)

-- a result of at most so many binary digits, or FIXEDOVERFLOW
abbrev pub within : (precision : ℕ) → ℤ → Result ℤ Raised
within precision x = if has_digits precision x then Ok x else Err Overflow

-- what a divisor gives: ZERODIVIDE where it is zero
abbrev pub unless_zero : (divisor : ℤ) → Result ℤ Raised → Result ℤ Raised
unless_zero (pos zero) given = Err ZeroDivide
unless_zero (pos (suc n)) given = given
unless_zero (negsuc n) given = given

-- DIVIDE(x, y, p): the quotient rounded toward zero, of at most p binary digits
abbrev pub quotient : (precision : ℕ) → (x y : ℤ) → Result ℤ Raised
quotient precision x y = unless_zero y (within precision (int_div x y))

-- MOD(x, y): what x is above a multiple of y, at least 0 and less than the magnitude of y
abbrev pub remainder : (x y : ℤ) → Result ℤ Raised
remainder x y = unless_zero y (Ok (int_rem_euclid x y))

-- SIGN(x): -1, 0 or 1
abbrev pub sign_of : ℤ → ℤ
sign_of x = if int_lt x (pos 0) then neg_ℤ (pos 1) else if int_lt (pos 0) x then pos 1 else pos 0

-- MAX(x, y)
abbrev pub greatest_of : ℤ → ℤ → ℤ
greatest_of x y = if int_le x y then y else x

-- MIN(x, y)
abbrev pub least_of : ℤ → ℤ → ℤ
least_of x y = if int_le x y then x else y

-- r is the least number from 0 on from which x differs by a multiple of y
pub record IsLeastRemainder (x y r : ℤ) : Type 0 where
  pub low : pos 0 ≤ℤ r
  pub multiple : (m : ℤ) × (r +ℤ m *ℤ y ≡ x)
  pub least : (s m : ℤ) → pos 0 ≤ℤ s → s +ℤ m *ℤ y ≡ x → r ≤ℤ s

-- what MOD gives is that number
abbrev pub RemaindersAreLeast : Type 0
RemaindersAreLeast = (x y r : ℤ) → remainder x y ≡ Ok r → IsLeastRemainder x y r
