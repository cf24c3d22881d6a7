pub mod BlockView
pub mod TableView
