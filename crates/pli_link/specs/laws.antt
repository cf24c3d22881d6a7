pub mod AlikeLaws
pub mod LinkLaws
pub mod Sorting
