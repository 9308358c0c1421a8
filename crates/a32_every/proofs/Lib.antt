-- Facts of the crate.
pub mod Every
pub mod Refusals
pub mod Branches
