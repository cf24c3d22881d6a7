pub mod CompareLemmas
pub mod FitLemmas
