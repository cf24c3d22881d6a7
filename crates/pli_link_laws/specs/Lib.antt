pub mod LinkedModules
