-- Facts of the crate that belong to no one function.
pub mod Chains
pub mod Following
pub mod Searched
pub mod Inside
pub mod Records
pub mod Answers
pub mod Unique
pub mod Kept
pub mod Aligned
pub mod Small
