pub mod DeckLaws
pub mod Limits
pub mod UnitTypes
pub mod WellFormed
pub mod examples
