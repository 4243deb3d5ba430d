pub mod Stack
pub mod Reading
pub mod Names
pub mod Layout
pub mod Scan
pub mod Lines
pub mod Asked
