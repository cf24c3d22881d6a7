pub mod OutcomeView
