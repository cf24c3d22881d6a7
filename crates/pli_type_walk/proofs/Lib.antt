pub mod BasedItems
pub mod Blocks
pub mod RoomLeft
pub mod Units
pub mod WalkEndLemmas
pub mod WalkLemmas
