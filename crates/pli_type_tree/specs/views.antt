pub mod TypedView
pub mod TemplateView
pub mod GlobalView
