-- Facts of the crate that belong to no one function.
pub mod Candidate
pub mod Encodes
pub mod Unique
