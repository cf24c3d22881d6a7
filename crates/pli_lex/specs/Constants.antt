-- Which digits are constants, and what they spell (X3.74; the limits of constants are own).
use Rattle.std.specs.Prelude.{ℕ, ◌+◌, ◌-◌, ◌/◌, ◌%◌, ◌^◌, nat_eq, nat_le, nat_lt}
use Rattle.std.specs.Prelude.{Bool, ◌&&◌, List, [], ◌∷◌, ◌++◌, map, drop, length, Option}
use Rattle.std.specs.Prelude.{Some, None, if◌then◌else◌}
use Rattle.std.specs.List.{list_all}
use Rattle.pli_base.specs.Digits.{value_in}
use Rattle.pli_base.specs.Name.{is_digit}
use Rattle.pli_lex.specs.Characters.{is_b}
use Rattle.pli_lex.specs.Characters.{is_binary_digit, is_width_digit, digit_value}

-- 1 to 19 digits, leading zeros counted, with a value of at most 2 ^ 63 - 1
abbrev pub is_constant : List ℕ → Bool
is_constant run =
    nat_le 1 (length run) && nat_le (length run) 19 && list_all is_digit run
    && nat_le (value_in 10 run) 9223372036854775807

-- 1 to 63 binary digits
abbrev pub is_binary_constant : List ℕ → Bool
is_binary_constant run = nat_le 1 (length run) && nat_le (length run) 63 && list_all is_binary_digit run

-- how many bits a digit has before `B`, `B1`, `B2`, `B3` or `B4`
abbrev pub width_of : List ℕ → Option ℕ
width_of (b ∷ []) = if is_b b then Some 1 else None
width_of (b ∷ d ∷ []) = if is_b b && is_width_digit d then Some (d - 48) else None
width_of others = None

-- digits of so many bits
abbrev pub are_digits : ℕ → List ℕ → Bool
are_digits width digits = list_all (λ digit. nat_lt (digit_value digit) (2 ^ width)) digits

-- the bits of a digit's value, from left to right
abbrev pub bits_of : (width value : ℕ) → List Bool
bits_of width value = map (λ place. nat_eq (value / place % 2) 1) (drop (4 - width) (8 ∷ 4 ∷ 2 ∷ 1 ∷ []))

-- the bits of digits
abbrev pub bits_in : ℕ → List ℕ → List Bool
bits_in width [] = []
bits_in width (digit ∷ digits) = bits_of width (digit_value digit) ++ bits_in width digits
