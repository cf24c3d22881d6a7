pub mod TableView
