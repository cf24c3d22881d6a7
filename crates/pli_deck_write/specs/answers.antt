pub mod ModuleHead
pub mod SpelledUnits
pub mod StatedTypes
