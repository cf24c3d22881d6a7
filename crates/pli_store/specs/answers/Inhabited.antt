-- Generations that are areas.
use Rattle.std.specs.Prelude.{ℕ, Option, Some, None, List, []}
use Rattle.std.specs.Global.{Box}
use Rattle.pli_area_blocks.specs.declared.area_blocks.AreaBlocks.{AreaBlocks}
use Rattle.pli_area_blocks.specs.views.AreaBlocksView.{blocks_view, capacity_of}
use Rattle.pli_world.specs.Storage.{Block}

-- the blocks of an area; what is no area has none
abbrev pub blocks_in : Option (Box AreaBlocks) → List Block
blocks_in None = []
blocks_in (Some area) = blocks_view area.value

-- how many bytes an area has; what is no area has none
abbrev pub capacity_in : Option (Box AreaBlocks) → ℕ
capacity_in None = 0
capacity_in (Some area) = capacity_of area.value
