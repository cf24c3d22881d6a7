pub mod ExtentExamples
pub mod TranslationExamples
