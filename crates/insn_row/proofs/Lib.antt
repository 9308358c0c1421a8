-- Facts of the crate that belong to no one function.
pub mod Sign
pub mod Sizes
pub mod Holds
pub mod Back
pub mod Unique
