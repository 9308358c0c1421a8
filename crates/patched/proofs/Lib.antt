-- Facts of the crate that belong to no one function.
pub mod Image
pub mod Accepts
pub mod Gives
pub mod Short
pub mod Patches
pub mod Unique
