-- Numbers and bits as characters, by their codes (X3.74).
use Rattle.std.specs.Prelude.{◌≡◌, ◌≤◌, ℕ, ◌-◌, Bool, true, false, ℤ, List, [], ◌∷◌, ◌++◌, length, map}
use Rattle.std.specs.Prelude.{replicate, if◌then◌else◌}
use Rattle.std.specs.Fmt.{signed_decimal}

-- a number at the right of so many characters, after blanks: its digits without leading zeros, after a
-- minus sign where it is negative
abbrev pub number_characters : (width : ℕ) → ℤ → List ℕ
number_characters width x = replicate (width - length (signed_decimal x)) 32 ++ signed_decimal x

-- the character of a bit, 1 or 0
abbrev pub bit_character : Bool → ℕ
bit_character b = if b then 49 else 48

-- a character for each bit
abbrev pub bit_characters : List Bool → List ℕ
bit_characters bits = map bit_character bits

-- bits as they are printed: as a constant of the language
abbrev pub bit_constant : List Bool → List ℕ
bit_constant bits = 39 ∷ bit_characters bits ++ 39 ∷ 66 ∷ []

-- a number as characters is put after others, and no more than so many are needed; or nothing has changed
abbrev pub NumberAppended : Bool → (width : ℕ) → ℤ → (old new : List ℕ) → Type 0
NumberAppended true width x old new =
    (length (signed_decimal x) ≤ width) × (new ≡ old ++ number_characters width x)
NumberAppended false width x old new = new ≡ old
