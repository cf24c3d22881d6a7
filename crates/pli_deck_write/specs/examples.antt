pub mod DeckExamples
pub mod FaultExamples
pub mod ModuleExamples
pub mod TypeExamples
