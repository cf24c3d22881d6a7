pub mod BuiltModules
pub mod FormedMembers
