-- Worked examples of the operations on numbers.
use Rattle.std.specs.Prelude.{◌≡◌, ◌+ℤ◌, ◌-ℤ◌, ◌*ℤ◌, pos, negsuc, Ok, Err}
use Rattle.pli_value.specs.declared.number.Raised.TheVariants.{Overflow, ZeroDivide}
use Rattle.pli_value.specs.Numbers.{within, quotient, remainder, sign_of, greatest_of, least_of}

-- 2147483647 has 31 binary digits, and so has -2147483647; one more on either side has 32
abbrev pub GreatestNumbers : Type 0
GreatestNumbers = (within 31 (pos 2147483646 +ℤ pos 1) ≡ Ok (pos 2147483647))
    × (within 31 (pos 2147483647 +ℤ pos 1) ≡ Err Overflow)
    × (within 31 (negsuc 2147483645 -ℤ pos 1) ≡ Ok (negsuc 2147483646))
    × (within 31 (negsuc 2147483646 -ℤ pos 1) ≡ Err Overflow)
    × (within 31 (pos 65536 *ℤ pos 32768) ≡ Err Overflow)
    × (within 63 (pos 65536 *ℤ pos 32768) ≡ Ok (pos 2147483648))
    × (within 3 (pos 7) ≡ Ok (pos 7)) × (within 3 (negsuc 6) ≡ Ok (negsuc 6))
    × (within 3 (negsuc 7) ≡ Err Overflow)

-- 9223372036854775807 has 63 binary digits, and so has -9223372036854775807; one more on either side has 64
abbrev pub WidestNumbers : Type 0
WidestNumbers = (within 63 (pos 9223372036854775806 +ℤ pos 1) ≡ Ok (pos 9223372036854775807))
    × (within 63 (pos 9223372036854775807 +ℤ pos 1) ≡ Err Overflow)
    × (within 63 (negsuc 9223372036854775805 -ℤ pos 1) ≡ Ok (negsuc 9223372036854775806))
    × (within 63 (negsuc 9223372036854775806 -ℤ pos 1) ≡ Err Overflow)
    × (within 63 (pos 4294967296 *ℤ pos 2147483648) ≡ Err Overflow)

-- 7 and -7 divided by 2 and -2, rounded toward zero; a quotient of too many digits; a divisor that is zero
abbrev pub Quotients : Type 0
Quotients = (quotient 31 (pos 7) (pos 2) ≡ Ok (pos 3)) × (quotient 31 (negsuc 6) (pos 2) ≡ Ok (negsuc 2))
    × (quotient 31 (pos 7) (negsuc 1) ≡ Ok (negsuc 2)) × (quotient 31 (negsuc 6) (negsuc 1) ≡ Ok (pos 3))
    × (quotient 2 (pos 8) (pos 2) ≡ Err Overflow) × (quotient 2 (pos 8) (pos 0) ≡ Err ZeroDivide)

-- MOD(7, 3), MOD(-7, 3), MOD(7, -3), MOD(-7, -3), MOD(-6, 3) and MOD(7, 0)
abbrev pub Remainders : Type 0
Remainders = (remainder (pos 7) (pos 3) ≡ Ok (pos 1)) × (remainder (negsuc 6) (pos 3) ≡ Ok (pos 2))
    × (remainder (pos 7) (negsuc 2) ≡ Ok (pos 1)) × (remainder (negsuc 6) (negsuc 2) ≡ Ok (pos 2))
    × (remainder (negsuc 5) (pos 3) ≡ Ok (pos 0)) × (remainder (pos 7) (pos 0) ≡ Err ZeroDivide)

-- SIGN, MAX and MIN
abbrev pub SignsAndOrders : Type 0
SignsAndOrders = (sign_of (negsuc 6) ≡ negsuc 0) × (sign_of (pos 0) ≡ pos 0) × (sign_of (pos 7) ≡ pos 1)
    × (greatest_of (negsuc 6) (pos 2) ≡ pos 2) × (greatest_of (pos 7) (pos 2) ≡ pos 7)
    × (least_of (negsuc 6) (pos 2) ≡ negsuc 6) × (least_of (pos 7) (pos 2) ≡ pos 2)
