pub mod EntryView
pub mod MeaningView
pub mod NameView
pub mod StorageView
pub mod VariableView
