pub mod Expanded
pub mod Expansion
pub mod LookedIn
pub mod Pieces
pub mod answers
pub mod examples
pub mod laws
pub mod views
