-- Facts of the crate that belong to no one function.
pub mod Homes
pub mod Gathered
pub mod Rewriting
pub mod Answers
pub mod Kept
pub mod Left
pub mod Unique
