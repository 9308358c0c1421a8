-- Facts of the crate: the groups, and the theorems.
pub mod Laws
pub mod Groups
pub mod ReadOnce
