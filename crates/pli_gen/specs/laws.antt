pub mod Laws
pub mod ListLaws
