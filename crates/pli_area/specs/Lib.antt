pub mod Areas
pub mod Placing
pub mod Held
pub mod MarkBits
pub mod examples
pub mod laws
pub mod views
