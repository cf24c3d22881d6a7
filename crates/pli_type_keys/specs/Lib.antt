pub mod Same
pub mod answers
pub mod laws
pub mod views
