pub mod DeviceLaws
pub mod NameLaws
pub mod SyntaxLaws
pub mod StatementLaws
pub mod FaultPlaceLaws
pub mod FrontLaws
pub mod TreeTokenLaws
