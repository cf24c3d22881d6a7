pub mod Held
pub mod Lends
pub mod Ownership
pub mod Words
