-- Facts of the crate that belong to no one function.
pub mod Place
pub mod Parts
pub mod Unique
