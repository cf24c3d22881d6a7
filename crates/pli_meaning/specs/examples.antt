pub mod ScratchExamples
