pub mod Effects
pub mod Parts
pub mod ProgramMeaning
pub mod TreeMeaning
pub mod examples
