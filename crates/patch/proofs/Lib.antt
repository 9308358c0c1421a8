-- Facts of the crate that belong to no one function.
pub mod Bounds
pub mod Words
pub mod Each
pub mod Holders
pub mod Finds
pub mod Runs
pub mod Example
pub mod Unique
