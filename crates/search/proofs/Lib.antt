pub mod Axes
mod Middles
mod Walks
mod Standing
pub mod Agreeing
pub mod Boxes
