-- What areas of the program keep of their blocks.
use Rattle.std.specs.Prelude.{◌≡◌, ◌<◌, ℕ, Some, List, ◌++◌, length, slice_get}
use Rattle.pli_area.specs.Areas as area
use Rattle.pli_area_blocks.specs.views.BlocksView.{described}
use Rattle.pli_map.specs.Description.{Description}
use Rattle.pli_map.specs.Sizes.{size_of}

-- the description of a block has its number, and the block has as many bytes as that takes
abbrev pub IsKnown : List Description → area.Block → Type 0
IsKnown ds b =
    (b.description < length ds) × (b.size ≡ size_of (described ds b.description)) × (length b.bytes ≡ b.size)

-- all of these blocks are so
abbrev pub AreKnown : List Description → List area.Block → Type 0
AreKnown ds bs = (k : ℕ) (b : area.Block) → slice_get bs k ≡ Some b → IsKnown ds b

-- descriptions keep their numbers where there are more
pub record IsGrown (old new : List Description) : Type 0 where
  pub more : List Description
  pub new_is : new ≡ old ++ more
