-- Facts of the crate that belong to no one function.
pub mod Firsts
pub mod Refused
pub mod Ruled
pub mod Checks
pub mod Accepted
pub mod Places
pub mod Fold
pub mod Given
pub mod Yielded
pub mod Reading
pub mod Front
pub mod Replaced
pub mod Example
pub mod Unique
