pub mod SessionLaws
pub mod ShownModules
