pub mod Pausing
pub mod Walking
