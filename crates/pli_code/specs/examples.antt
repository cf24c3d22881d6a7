pub mod InstructionExamples
pub mod NamingExamples
