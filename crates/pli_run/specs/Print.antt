-- Printing: the bytes of an item at a column, and the column after it (own). A line has 120 columns, counted
-- from 1; at column 121 the line is full.
use Rattle.std.specs.Prelude.{ℕ, ◌+◌, ◌-◌, nat_le, nat_eq, Bool, ◌||◌, Option, Some, None, List, [], ◌∷◌}
use Rattle.std.specs.Prelude.{◌++◌, length, replicate, if◌then◌else◌}

-- what printing gives
pub record Printed : Type 0 where
  pub bytes : List ℕ
  pub column : ℕ

-- a line feed
abbrev pub line_end : ℕ
line_end = 10

-- a blank
abbrev pub blank : ℕ
blank = 32

-- the least tab stop that is not before a column
abbrev pub tab_from : ℕ → Option ℕ
tab_from c =
    if nat_le c 1 then Some 1 else if nat_le c 25 then Some 25 else if nat_le c 49 then Some 49
    else if nat_le c 73 then Some 73 else if nat_le c 97 then Some 97 else None

-- an item of this size fits the line from this column on, or has the line from its beginning
abbrev pub may_begin : (column size : ℕ) → Bool
may_begin column size = nat_eq column 1 || nat_le (column + size) 121

-- a new line
abbrev pub fresh : Printed
fresh = record { bytes = line_end ∷ []; column = 1 }

-- from a column to the tab stop
abbrev pub lead_to : (c size : ℕ) → Option ℕ → Printed
lead_to c size None = fresh
lead_to c size (Some s) =
    if may_begin s size then record { bytes = replicate (s - c) blank; column = s } else fresh

-- what stands before an item, and the column at which it begins
abbrev pub lead : (c size : ℕ) → Printed
lead c size = lead_to c size (tab_from c)

-- the characters of an item from a column on, broken where a line is full; after them a blank, or a line end
-- where the line is full
abbrev pub characters_from : ℕ → List ℕ → Printed
characters_from c [] = if nat_eq c 121 then fresh else record { bytes = blank ∷ []; column = c + 1 }
characters_from c (x ∷ xs) =
    if nat_eq c 121
    then (let rest = characters_from 2 xs in
    record { bytes = line_end ∷ x ∷ rest.bytes; column = rest.column })
    else (let rest = characters_from (c + 1) xs in record { bytes = x ∷ rest.bytes; column = rest.column })

-- an item at the next column c
abbrev pub print : (c : ℕ) (item : List ℕ) → Printed
print c item =
    let before = lead c (length item) in let rest = characters_from before.column item in
    record { bytes = before.bytes ++ rest.bytes; column = rest.column }
