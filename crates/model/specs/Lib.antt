pub mod Wire
pub mod Format
pub mod Finds
pub mod Extents
pub mod Laws
pub mod Misfits
