pub mod Regions
pub mod Reach
pub mod answers
