pub mod Calls
pub mod Index
