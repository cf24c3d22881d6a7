pub mod StackExamples
