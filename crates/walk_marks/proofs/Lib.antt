-- Facts of the crate that belong to no one function.
pub mod Bits
pub mod Marking
pub mod Marks
pub mod Looking
pub mod Stores
pub mod Unique
