pub mod Faults
pub mod answers
pub mod views
