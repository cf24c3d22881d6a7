pub mod LaidBytes
pub mod Popped
