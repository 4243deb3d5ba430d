pub mod Grammar
pub mod Machine
pub mod Tokens
pub mod Values
pub mod Laws
pub mod Faults
pub mod Meaning
