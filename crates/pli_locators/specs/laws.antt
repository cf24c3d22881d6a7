pub mod AreaLaws
pub mod Operations
