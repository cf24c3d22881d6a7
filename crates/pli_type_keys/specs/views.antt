pub mod KeyView
