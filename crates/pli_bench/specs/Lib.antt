pub mod CommandLine
pub mod Session
pub mod Statuses
pub mod answers
pub mod examples
pub mod laws
