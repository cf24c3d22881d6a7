pub mod Answering
pub mod Batches
pub mod Going
pub mod Kept
