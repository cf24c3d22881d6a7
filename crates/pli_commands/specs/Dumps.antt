-- What is shown of a module's bytes: each as two digits in base 16, 32 to a line (own).
use Rattle.std.specs.Prelude.{ℕ, ◌+◌, ◌/◌, ◌%◌, nat_eq, nat_lt, List, [], ◌∷◌, ◌++◌, if◌then◌else◌}

-- 0 to 9, then a to f
abbrev pub digit_of : ℕ → ℕ
digit_of d = if nat_lt d 10 then 48 + d else 87 + d

-- a byte as two digits
abbrev pub digits_of : (byte : ℕ) → List ℕ
digits_of b = digit_of (b / 16) ∷ digit_of (b % 16) ∷ []

-- a line feed after the last of 32 bytes, which are counted from 0
abbrev pub end_at : (column : ℕ) → List ℕ
end_at column = if nat_eq column 31 then 10 ∷ [] else []

-- the column of the next byte, 0 to 31
abbrev pub next_column : (column : ℕ) → ℕ
next_column column = if nat_eq column 31 then 0 else column + 1

-- bytes from a column on; a line that has begun is ended after the last
abbrev pub hex_from : (column : ℕ) → List ℕ → List ℕ
hex_from column [] = if nat_eq column 0 then [] else 10 ∷ []
hex_from column (b ∷ bs) = digits_of b ++ end_at column ++ hex_from (next_column column) bs
