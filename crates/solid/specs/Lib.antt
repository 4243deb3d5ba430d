pub mod Shapes
pub mod Models
pub mod Laws
pub mod Steps
pub mod Told
pub mod Stacks
pub mod Examples
