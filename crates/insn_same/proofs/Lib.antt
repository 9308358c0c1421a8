-- Facts of the crate that belong to no one function.
pub mod Tests
pub mod Numbered
pub mod Exact
pub mod Unique
