pub mod Counted
pub mod CutSizes
pub mod Places
pub mod Remains
