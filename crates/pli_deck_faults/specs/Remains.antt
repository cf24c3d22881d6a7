-- What is left of so many bytes.
use Rattle.std.specs.Prelude.{◌≡◌, ℕ, ◌+◌, ◌<◌, Option, Some, None}

-- so many bytes are left after those that were taken; none where more were taken than there were
abbrev pub Remains : Option ℕ → (bytes taken : ℕ) → Type 0
Remains None bytes taken = bytes < taken
Remains (Some left) bytes taken = left + taken ≡ bytes
