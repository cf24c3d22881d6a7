-- What a print does to the output gathered so far.
use Rattle.std.specs.Prelude.{◌≡◌, ℕ, List, ◌++◌}
use Rattle.pli_run.specs.Print.{Printed}

-- the output grows by what is printed, and this is the column after it
abbrev pub Prints : (old new : List ℕ) (column : ℕ) → Printed → Type 0
Prints old new column p = (new ≡ old ++ p.bytes) × (column ≡ p.column)
