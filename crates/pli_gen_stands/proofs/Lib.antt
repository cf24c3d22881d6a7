pub mod StatementPlaces
pub mod TranslationStands
pub mod ProgramsRun
