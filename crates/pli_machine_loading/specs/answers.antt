pub mod AskedForms
pub mod LoadedModules
pub mod MadeGlobals
