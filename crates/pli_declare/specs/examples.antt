pub mod ResolutionExamples
pub mod ResolvedExamples
