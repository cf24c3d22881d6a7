-- Parts of blocks, and what changes in blocks.
use Rattle.std.specs.Prelude.{◌≡◌, ◌≤◌, ◌<◌, ℕ, Bool, true, false, Option, Some, List}
use Rattle.std.specs.Option.{option_map_or}
use Rattle.pli_map.specs.Description.{Description}
use Rattle.pli_map.specs.Scalars.{first_scalar, scalars_in}
use Rattle.pli_value.specs.Value.{Value}
use Rattle.pli_world.specs.Areas.{end_of_blocks, with_block}
use Rattle.pli_world.specs.Storage.{Block, block_at, values_from, with_block_values, with_values_at}

-- a part of this description stands so many bytes after the beginning of the block at a position
pub record PartStands (bs : List Block) (position offset : ℕ) (d : Description) : Type 0 where
  pub block : Block
  pub scalar : ℕ
  pub found : block_at bs position ≡ Some block
  pub first : first_scalar block.description offset d ≡ Some scalar

-- it holds these values
pub record PartHolds (bs : List Block) (position offset : ℕ) (d : Description) (vs : List Value)
    : Type 0 where
  pub there : PartStands bs position offset d
  pub held : values_from there.scalar (scalars_in d) there.block.values ≡ vs

-- it holds these values now; nothing else has changed
pub record PartPut (old new : List Block) (position offset : ℕ) (d : Description) (vs : List Value)
    : Type 0 where
  pub there : PartStands old position offset d
  pub changed : new ≡ with_block_values old position (with_values_at there.scalar vs there.block.values)

-- with a block more at a position, or as before without one
abbrev pub placed : (position : Option ℕ) → Description → List Value → List Block → List Block
placed position d vs bs =
    option_map_or (λ p. with_block bs (record { position = p; description = d; values = vs })) position bs

-- the blocks of one area have room in another, which has them now; or they have none, and nothing has changed
abbrev pub AssignsBlocks : (fits : Bool) → (capacity : ℕ) → (source old new : List Block) → Type 0
AssignsBlocks true capacity source old new = (end_of_blocks source ≤ capacity) × (new ≡ source)
AssignsBlocks false capacity source old new = (capacity < end_of_blocks source) × (new ≡ old)
