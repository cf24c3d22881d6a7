pub mod AtOnce
pub mod Jumps
