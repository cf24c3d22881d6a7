pub mod Characters
pub mod Faults
pub mod Reading
pub mod Signs
pub mod Tokens
pub mod Constants
pub mod answers
pub mod examples
