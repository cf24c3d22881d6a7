pub mod Descriptions
pub mod Faultless
pub mod LevelsOfEntries
pub mod SymbolsWithin
pub mod TypesTaken
pub mod StatementsCounted
