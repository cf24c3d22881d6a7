pub mod BuiltModules
