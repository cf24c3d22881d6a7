pub mod FaultLaws
pub mod TableLaws
