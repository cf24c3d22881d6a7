pub mod InitialsFew
pub mod ScalarCounts
pub mod WaysDiffer
