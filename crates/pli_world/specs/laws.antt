pub mod Operations
pub mod OperationLaws
