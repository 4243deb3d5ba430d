pub mod Shaped
pub mod Gathering
pub mod Sides
pub mod Levels
