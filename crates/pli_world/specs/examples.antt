pub mod StorageExamples
pub mod StringExamples
