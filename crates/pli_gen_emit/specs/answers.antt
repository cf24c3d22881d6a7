pub mod Collecting
pub mod Emitting
pub mod Instructions
pub mod Numbering
pub mod Pieces
pub mod Units
