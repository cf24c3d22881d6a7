pub mod DimensionSeen
pub mod GenerationView
pub mod StorageView
