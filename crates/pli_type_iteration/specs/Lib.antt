pub mod Headers
pub mod Iterations
pub mod views
