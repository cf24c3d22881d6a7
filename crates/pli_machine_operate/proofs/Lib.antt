pub mod IndexLemmas
pub mod LocatorLemmas
pub mod StackLemmas
pub mod WidthLemmas
pub mod WiderNumbers
