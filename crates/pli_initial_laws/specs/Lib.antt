pub mod InitialCounts
