pub mod Limits
pub mod Planes
pub mod Meets
pub mod Moves
pub mod Cramer
pub mod Ratios
