pub mod StatementGrammar
pub mod StatementReading
pub mod StatementWords
pub mod answers
