-- What the function that measures descriptions answers (own).
use Rattle.std.specs.Prelude.{◌≡◌, ℕ, ◌<◌, ◌≤◌, Option, Some, None}
use Rattle.pli_map.specs.declared.layout.Layout.{Layout}

-- the layout of this size and alignment, or none exactly where the size is over the limit
abbrev pub IsLayout : Option Layout → (bytes alignment : ℕ) → Type 0
IsLayout None bytes alignment = 1000000 < bytes
IsLayout (Some l) bytes alignment = (bytes ≤ 1000000) × (l.bytes ≡ bytes) × (l.alignment ≡ alignment)
