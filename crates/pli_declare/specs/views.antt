pub mod BlockView
pub mod ResolvedView
pub mod CompletedView
pub mod DeclarationView
pub mod SymbolView
