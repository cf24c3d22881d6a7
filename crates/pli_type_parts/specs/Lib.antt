pub mod Around
pub mod Parts
pub mod views
