pub mod Search
pub mod Levels
