pub mod PartView
