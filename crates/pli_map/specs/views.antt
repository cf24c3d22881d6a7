pub mod DescriptionView
pub mod MembersView
pub mod DimensionView
pub mod ParameterView
pub mod PartView
pub mod TableView
