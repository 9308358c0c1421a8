pub mod Ranges
pub mod Section
pub mod Accepted
pub mod Replaced
