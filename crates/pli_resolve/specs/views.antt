pub mod TableView
pub mod UnitView
