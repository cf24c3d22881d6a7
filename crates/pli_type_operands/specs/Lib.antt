pub mod Bounded
pub mod Operated
pub mod Quotients
pub mod Within
pub mod views
