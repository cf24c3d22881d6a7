pub mod CodeView
