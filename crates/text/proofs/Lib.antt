-- Facts of the crate that belong to no one function.
pub mod Writing
pub mod Settled
pub mod Digits
pub mod Unique
