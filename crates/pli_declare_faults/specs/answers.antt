pub mod Answers
pub mod Looking
pub mod Meeting
pub mod Walks
pub mod Targets
