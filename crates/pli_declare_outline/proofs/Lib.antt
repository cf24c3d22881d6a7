pub mod MarkLemmas
pub mod UnitParts
pub mod WalkLemmas
