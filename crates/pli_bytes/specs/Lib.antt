pub mod answers
pub mod Changes
pub mod Contents
pub mod laws
