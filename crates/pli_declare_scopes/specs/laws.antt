pub mod LevelLaws
pub mod RepeatLaws
pub mod ScopeLaws
