-- Facts of the crate that belong to no one function.
pub mod Joined
pub mod Unique
