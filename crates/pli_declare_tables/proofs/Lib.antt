pub mod BlocksByMarks
pub mod JudgedEntries
pub mod TablesOfUnits
