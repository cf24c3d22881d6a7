pub mod Errors
pub mod Print
pub mod examples
