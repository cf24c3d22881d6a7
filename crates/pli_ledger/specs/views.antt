pub mod KeptView
