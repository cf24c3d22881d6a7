pub mod NumberExamples
pub mod StringExamples
