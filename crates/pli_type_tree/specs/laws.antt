pub mod GlobalLaws
pub mod TypedTreeLaws
