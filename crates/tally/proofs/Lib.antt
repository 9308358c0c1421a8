-- Facts of the crate.
pub mod Adding
pub mod Places
pub mod Steps
pub mod Folded
pub mod Answers
pub mod Lent
pub mod Counted
pub mod Tallied
pub mod Sums
pub mod Order
pub mod Unique
