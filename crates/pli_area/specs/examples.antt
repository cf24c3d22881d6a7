pub mod AreaExamples
