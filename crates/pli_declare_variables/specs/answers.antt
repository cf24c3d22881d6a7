pub mod Walks
pub mod Measures
pub mod Declaring
