pub mod Judging
pub mod answers
pub mod laws
