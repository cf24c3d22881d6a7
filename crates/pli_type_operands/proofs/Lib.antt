pub mod CallLemmas
pub mod PassingLemmas
pub mod Rooms
pub mod TypeViews
