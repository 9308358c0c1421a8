-- Facts of the crate.
pub mod Elsewhere
