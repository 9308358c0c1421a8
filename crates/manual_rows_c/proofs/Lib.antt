-- Facts of the crate that belong to no one function.
pub mod Same
