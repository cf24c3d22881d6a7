pub mod ActView
pub mod HaltView
