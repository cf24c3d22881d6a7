mod AttributesAlike
mod DeclarationsAlike
mod ExpressionsAlike
mod ListsAlike
mod NestsAlike
mod PartsAlike
mod ReadersAlike
pub mod UnitsAlike
