pub mod answers
pub mod examples
pub mod laws
