pub mod answers
pub mod Limits
pub mod WellNumbered
pub mod examples
pub mod laws
