-- Facts of the crate.
pub mod Alike
