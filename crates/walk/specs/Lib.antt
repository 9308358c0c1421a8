pub mod Reached
pub mod Search
pub mod Report
pub mod Walk
pub mod Kept
