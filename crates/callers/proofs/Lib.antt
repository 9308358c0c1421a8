-- Facts of the crate that belong to no one function.
pub mod Calls
pub mod Built
pub mod Answers
pub mod Left
pub mod Unique
