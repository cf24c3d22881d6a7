pub mod ReachSteps
pub mod Kept
