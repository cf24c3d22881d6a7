pub mod Examples
pub mod OnePlace
pub mod ReadingFaults
pub mod ReadingStops
pub mod StepLemmas
pub mod ToldFaults
