mod StatementBeginnings
mod StatementClauses
mod StatementRows
pub mod StatementFaults
pub mod StatementFaultPlaces
pub mod StatementTokens
pub mod StatementRead
pub mod StatementReadFirst
pub mod StatementReadHeading
pub mod StatementReadLists
pub mod StatementReadNests
pub mod StatementReadParts
pub mod StatementReadPlaces
pub mod StatementReadPut
pub mod StatementReadSimple
pub mod StatementReadStands
pub mod StatementReadTools
pub mod StatementSpelledBodies
pub mod StatementSpelledControls
pub mod StatementSpelledHeadings
pub mod StatementSpelledLevels
pub mod StatementSpelledNests
pub mod StatementSpelledOptions
pub mod StatementSpelledParts
pub mod StatementSpelledSimple
pub mod StatementSpelledStarts
pub mod StatementSpelledTools
pub mod StatementSpelledUnits
pub mod UnitFaults
pub mod WordsFirst
pub mod WorkedExamples
