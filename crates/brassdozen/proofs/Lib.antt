-- Facts of the crate that belong to no one function.
pub mod From
pub mod Placed
pub mod Fit
pub mod Exactly
pub mod Back
pub mod Unique
