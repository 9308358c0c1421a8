pub mod Entries
pub mod Updating
pub mod Ordered
