pub mod NamesView
pub mod OutlineView
