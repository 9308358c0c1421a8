-- Facts of the crate: what is promised, and what it rests on.
pub mod Left
pub mod Unindexed
pub mod Promises
