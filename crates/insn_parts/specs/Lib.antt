pub mod Operands
pub mod Parts
