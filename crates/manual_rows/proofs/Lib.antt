-- Facts of the crate that belong to no one function.
pub mod Leading
pub mod Paging
pub mod Unique
