pub mod Globals
pub mod Groups
pub mod ItemNames
pub mod Items
pub mod NotedNames
pub mod Plans
pub mod views
