-- The version that comes next, as it is stored.
use Rattle.std.specs.Prelude.{ℕ, ◌^◌, Option, None, Some}

-- 2^64 where none is left
abbrev pub next_version : Option ℕ → ℕ
next_version (Some version) = version
next_version None = 2 ^ 64
