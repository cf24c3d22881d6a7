pub mod AreaExamples
pub mod LocatorExamples
