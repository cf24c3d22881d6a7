pub mod Laws
pub mod MoveLaws
pub mod Moves
pub mod RunLaws
