pub mod Between
pub mod Holes
pub mod Steps
