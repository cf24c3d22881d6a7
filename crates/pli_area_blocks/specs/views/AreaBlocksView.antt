-- What the blocks of an area of the program say.
use Rattle.std.specs.Prelude.{ℕ, List, map}
use Rattle.pli_area_blocks.specs.declared.area_blocks.AreaBlocks.{AreaBlocks}
use Rattle.pli_area_blocks.specs.views.BlocksView.{block_view, wholes}
use Rattle.pli_world.specs.Storage.{Block}

-- all blocks, in rising positions
abbrev pub blocks_view : AreaBlocks → List Block
blocks_view a = map (block_view (wholes a.descriptions.items)) a.area.blocks

-- how many bytes the area has
abbrev pub capacity_of : AreaBlocks → ℕ
capacity_of a = a.area.capacity
