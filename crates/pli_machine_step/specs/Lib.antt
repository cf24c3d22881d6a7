pub mod Machine
pub mod ModuleRuns
pub mod Outcomes
pub mod Runs
pub mod examples
pub mod laws
