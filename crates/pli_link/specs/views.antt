pub mod NameView
pub mod UnitView
