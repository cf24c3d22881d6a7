pub mod Members
pub mod Refusals
pub mod Versions
pub mod answers
pub mod examples
pub mod views
