pub mod FieldLaws
pub mod FormLaws
pub mod InstructionLaws
pub mod NumberedLaws
pub mod OperandReading
pub mod PutLemmas
pub mod VersionLemmas
pub mod Worked
