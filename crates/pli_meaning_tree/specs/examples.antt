pub mod AreaExamples
pub mod ConditionExamples
pub mod ExtentExamples
pub mod TreeExamples
