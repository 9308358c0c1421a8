pub mod Image
pub mod Run
pub mod Bounds
pub mod Part
