pub mod SizeLemmas
pub mod TurnLemmas
