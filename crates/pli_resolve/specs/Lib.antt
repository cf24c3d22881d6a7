pub mod laws
pub mod views
