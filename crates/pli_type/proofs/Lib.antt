pub mod Lists
pub mod TypedTrees
