pub mod Outlines
pub mod StatementPlaces
pub mod Walks
pub mod examples
pub mod views
