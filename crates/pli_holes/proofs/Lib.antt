pub mod WordLemmas
pub mod LeadLemmas
pub mod ListLemmas
pub mod StepLemmas
pub mod WalkLemmas
pub mod TakeLemmas
pub mod GiveLemmas
