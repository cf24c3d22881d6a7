pub mod Levels
pub mod Repeats
pub mod Scopes
pub mod answers
pub mod examples
pub mod laws
