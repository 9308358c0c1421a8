-- Facts of the crate that belong to no one function.
pub mod Letters
pub mod Pages
pub mod Decoded
pub mod Unique
