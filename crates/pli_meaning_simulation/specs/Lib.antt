pub mod CodeStands
pub mod laws
