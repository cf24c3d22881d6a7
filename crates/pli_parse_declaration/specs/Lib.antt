pub mod DeclarationGrammar
pub mod DeclarationReading
pub mod DeclarationWords
pub mod Separators
pub mod ItemEnds
pub mod answers
pub mod examples
