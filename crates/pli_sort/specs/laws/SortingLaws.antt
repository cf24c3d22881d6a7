-- What the order of items amounts to, whatever way it is come to.
use Rattle.std.specs.Prelude.{ℕ, List, IsPermutation, IsSortedByKey}
use Rattle.std.specs.List.Sorted.{IsStableByKey}
use Rattle.std.specs.Ordering.{nat_cmp}
use Rattle.std.specs.declared.cmp.Ordering.{Ordering}
use Rattle.pli_sort.specs.Sorting.{in_order}

-- the same items, sorted, those of one key in their old order
pub record Sorts {X K : Type 0} (key : X → K) (cmp : K → K → Ordering) (old new : List X) : Type 0 where
  pub same_items : IsPermutation old new
  pub rising : IsSortedByKey key cmp new
  pub stable : IsStableByKey key cmp old new

-- the order of numbers by a key that is a number is that
abbrev pub NumbersAreSorted : Type 0
NumbersAreSorted =
    (key : ℕ → ℕ) (numbers : List ℕ) → Sorts key nat_cmp numbers (in_order key nat_cmp numbers)
