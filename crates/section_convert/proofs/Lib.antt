-- Facts of the crate that belong to no one function.
pub mod Sizes
pub mod Parts
pub mod Converts
pub mod Gives
pub mod Short
pub mod Unique
