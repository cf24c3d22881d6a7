-- A part of an answer is written after another.
use Rattle.std.specs.Prelude.{ℕ, Option, Result, Ok, Err, List, ◌++◌}
use Rattle.std.specs.Io.KnownBytes.{Appends}
use Rattle.pli_base.specs.laws.DeviceLaws.{Appends-then, Appends-then_AppendsPrefix}
use Rattle.pli_commands.specs.answers.Answering.{Writes}

-- a part is written after another
pub writes_then : {A E : Type 0} (a b c : Option (List ℕ)) (xs ys : List ℕ) (r : Result A E) → Appends a b xs → Writes b c ys r → Writes a c (xs ++ ys) r
writes_then a b c xs ys (Ok x) p q = Appends-then a b c xs ys p q
writes_then a b c xs ys (Err e) p q = Appends-then_AppendsPrefix a b c xs ys p q
