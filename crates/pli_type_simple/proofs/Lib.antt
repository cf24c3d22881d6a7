pub mod AlikeLemmas
pub mod CallLemmas
pub mod ItemLists
