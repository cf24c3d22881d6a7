pub mod BlockParts
pub mod GrownDescriptions
pub mod Options
pub mod PlacedBlocks
pub mod ViewedBlocks
