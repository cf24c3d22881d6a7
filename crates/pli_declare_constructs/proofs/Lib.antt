pub mod RegionsAround
pub mod BlocksAround
pub mod ReachStepLemmas
pub mod ReachLemmas
