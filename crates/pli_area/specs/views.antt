pub mod AreaView
pub mod FoundView
