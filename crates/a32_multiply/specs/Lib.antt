pub mod Halfword
pub mod Multiply
pub mod Sync
