pub mod Examples
pub mod ParameterExamples
pub mod ScalarExamples
pub mod StoredExamples
