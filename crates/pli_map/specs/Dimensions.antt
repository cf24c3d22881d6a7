-- Dimensions of arrays, as they are known where a place is (X3.74): bounds, and how far a subscript leads on.
use Rattle.std.specs.Prelude.{ℕ, suc, ◌*◌, ℤ, Option, None, option_map, List, [], ◌∷◌, drop, slice_get}
use Rattle.pli_map.specs.declared.description.Bounds.{Bounds}
use Rattle.pli_map.specs.declared.dimension.WhichBound.{WhichBound}
use Rattle.pli_map.specs.declared.dimension.WhichBound.TheVariants.{Low, High}
use Rattle.pli_map.specs.Description.{Description, Array}
use Rattle.pli_map.specs.Sizes.{count_of, stride_of}

-- a dimension of an array: its bounds; how many bytes each number over the low one leads on; and what a place
-- is then, an element after the last dimension, else the array still
pub record ArrayDimension : Type 0 where
  pub bounds : Bounds
  pub multiplier : ℕ
  pub after : Description

-- what a place is after a subscript, before those of these dimensions
abbrev pub left_by : (whole element : Description) → (later : List Bounds) → Description
left_by whole element [] = element
left_by whole element (b ∷ bs) = whole

-- a dimension of these bounds, before these dimensions: the last one varies fastest
abbrev pub dimension_before : (whole element : Description) → (later : List Bounds) → Bounds → ArrayDimension
dimension_before whole element later b = record {
  bounds = b;
  multiplier = count_of later * stride_of element;
  after = left_by whole element later;
}

-- the dimension of a number, counted from 1, of an array
abbrev pub dimension_at : Description → (number : ℕ) → Option ArrayDimension
dimension_at (Array bounds element) (suc k) =
    option_map (dimension_before (Array bounds element) element (drop (suc k) bounds)) (slice_get bounds k)
dimension_at other number = None

-- a bound
abbrev pub bound_of : WhichBound → Bounds → ℤ
bound_of Low b = b.low
bound_of High b = b.high
