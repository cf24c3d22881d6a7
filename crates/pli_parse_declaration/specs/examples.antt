pub mod DeclarationExamples
