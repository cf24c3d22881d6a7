pub mod Indexes
pub mod Paths
pub mod Leaps
pub mod Reaches
pub mod Remembered
pub mod Judged
