pub mod SymbolBounds
pub mod StatementNumbers
