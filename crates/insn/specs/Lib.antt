pub mod Answer
pub mod Constants
pub mod Memory
pub mod Numbers
pub mod Roots
