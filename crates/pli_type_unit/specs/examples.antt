pub mod NameExamples
