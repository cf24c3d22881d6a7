pub mod ControlAnswers
pub mod StatementAnswers
