-- Laws of areas.
use Rattle.std.specs.Prelude.{ℕ, MatchOption}
use Rattle.pli_area.specs.Areas.{Blocks, IsArea, IsLeast, IsFull, first_fit}

-- the position in the first hole that is long enough is the least that the area allows; where no hole is, it
-- allows none
abbrev pub FirstHoleIsLeast : Type 0
FirstHoleIsLeast =
    (a : Blocks) (size : ℕ) → IsArea a → MatchOption (first_fit a size) (IsFull a size) (IsLeast a size)
