pub mod AreaBlocksView
pub mod BlocksView
