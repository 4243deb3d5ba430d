pub mod Ring
pub mod Order
pub mod Poly
pub mod Solve
pub mod Sized
pub mod Steps
mod Uses
