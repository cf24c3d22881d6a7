pub mod StackView
pub mod StacksView
