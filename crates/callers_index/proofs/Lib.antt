-- Facts of the crate that belong to no one function.
pub mod Entries
pub mod Left
pub mod Updating
pub mod Lent
pub mod Ordered
pub mod Unique
