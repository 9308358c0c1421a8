-- Facts of the crate that belong to no one function.
pub mod Ones
pub mod Unique
