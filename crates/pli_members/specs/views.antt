pub mod ChangeView
pub mod Fields
