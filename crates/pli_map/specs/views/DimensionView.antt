-- What a dimension of an array is that the code has: a multiplier is cut at 2^32, which is over all offsets.
use Rattle.std.specs.Prelude.{◌≡◌, min, Option, Some, None}
use Rattle.pli_map.specs.declared.dimension.Dimension.{Dimension}
use Rattle.pli_map.specs.Dimensions.{ArrayDimension}
use Rattle.pli_map.specs.views.DescriptionView.{description_view}

-- the code's dimension is this one
pub record IsDimension (d : ArrayDimension) (own : Dimension) : Type 0 where
  pub bounds : own.bounds ≡ d.bounds
  pub multiplier : own.multiplier ≡ min d.multiplier 4294967296
  pub after : description_view own.after.now ≡ d.after

-- it has one where there is one
abbrev pub AreDimensions : Option ArrayDimension → Option Dimension → Type 0
AreDimensions None None = Unit {0}
AreDimensions (Some d) (Some own) = IsDimension d own
AreDimensions d own = ⊥
