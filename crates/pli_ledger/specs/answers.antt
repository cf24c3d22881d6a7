pub mod Aligning
pub mod Built
pub mod Compiling
pub mod Lending
pub mod Passing
