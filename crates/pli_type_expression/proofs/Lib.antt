pub mod BindLemmas
pub mod LoopLemmas
pub mod MeaningLemmas
pub mod OpenLemmas
pub mod ReferenceLemmas
pub mod SizeLemmas
pub mod WalkLemmas
pub mod WrittenCalls
