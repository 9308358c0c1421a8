-- Facts of the crate that belong to no one function.
pub mod Joins
pub mod One
pub mod Unique
