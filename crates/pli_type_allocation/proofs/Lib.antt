pub mod AllocatedInTurn
pub mod InTurn
pub mod StackedAlone
