pub mod Declarations
pub mod Expressions
pub mod GrammarLaws
pub mod Readers
pub mod StatementParts
pub mod UnitReading
