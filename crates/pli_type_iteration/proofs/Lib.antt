pub mod Arrows
pub mod IterationLemmas
