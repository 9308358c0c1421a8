-- Facts of the crate that belong to no one function.
pub mod Grow
pub mod Enough
pub mod Laid
pub mod Example
pub mod Unique
