pub mod OutcomesAreOne
pub mod RunsGrow
pub mod RunsEnd
pub mod ExamplesRun
pub mod AreasRun
pub mod ExtentsRun
