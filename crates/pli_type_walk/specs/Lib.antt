pub mod Compound
pub mod NumbersTaken
pub mod Walking
