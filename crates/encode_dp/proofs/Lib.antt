-- Facts of the crate that belong to no one function.
pub mod Chosen
pub mod Turned
pub mod Unique
