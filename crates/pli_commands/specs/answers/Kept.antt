-- How much of a line that has begun is kept.
use Rattle.std.specs.Prelude.{ℕ}

-- more bytes than a command may have, with a carriage return after them
abbrev pub kept_limit : ℕ
kept_limit = 202
