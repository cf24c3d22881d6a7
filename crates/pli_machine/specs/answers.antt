pub mod CurrentUnit
pub mod Going
pub mod Runs
