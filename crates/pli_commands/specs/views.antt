pub mod CommandView
