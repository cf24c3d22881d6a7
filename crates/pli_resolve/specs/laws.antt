pub mod BlockLaws
pub mod UseLaws
pub mod MemberLaws
pub mod LocatorLaws
