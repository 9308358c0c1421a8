pub mod Patched
pub mod Promise
