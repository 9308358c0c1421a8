pub mod Block
pub mod Branch
pub mod Unconditional
