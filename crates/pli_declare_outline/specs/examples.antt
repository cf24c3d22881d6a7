pub mod OutlineExamples
