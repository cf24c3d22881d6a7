pub mod Sorting
pub mod laws
