pub mod TypedExamples
