-- A dimension of an array as the code has it, whose multiplier is cut at 2^32.
use Rattle.pli_map.specs.Dimensions.{ArrayDimension}
use Rattle.pli_map.specs.declared.dimension.Dimension.{Dimension}
use Rattle.pli_map.specs.views.DescriptionView.{description_view}

-- what it says
abbrev pub dimension_seen : Dimension → ArrayDimension
dimension_seen d =
    record { bounds = d.bounds; multiplier = d.multiplier; after = description_view d.after.now }
