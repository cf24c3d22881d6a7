pub mod OriginsView
