pub mod Classes
pub mod Counting
pub mod Linking
pub mod Tables
