pub mod ExamplesHold
pub mod AreasHold
pub mod ConditionsHold
pub mod ExtentsHold
