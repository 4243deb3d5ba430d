pub mod Refusals
pub mod Answered
pub mod Drawings
pub mod Openings
pub mod Replies
