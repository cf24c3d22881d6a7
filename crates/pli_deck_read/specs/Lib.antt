pub mod Earlier
pub mod Wanted
