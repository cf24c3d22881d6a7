pub mod Segments
pub mod views
