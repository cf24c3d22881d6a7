pub mod CorrespondLemmas
pub mod SortedLemmas
pub mod SortedOnce
