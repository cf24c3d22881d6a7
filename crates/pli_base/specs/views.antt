pub mod NameFields
pub mod SyntaxView
pub mod DeclarationView
pub mod StatementView
