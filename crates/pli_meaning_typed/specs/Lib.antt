pub mod SoundWorlds
pub mod TypedPrograms
pub mod examples
