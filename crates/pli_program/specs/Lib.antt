pub mod Kinds
pub mod Naming
pub mod Program
pub mod Templates
pub mod laws
