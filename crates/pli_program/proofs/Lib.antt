pub mod NamedAlike
