pub mod AreaExamples
pub mod ExtentExamples
pub mod MachineExamples
