pub mod FirstFaultExamples
