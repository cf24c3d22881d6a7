pub mod DeclarationAnswers
