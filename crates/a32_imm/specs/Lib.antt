pub mod Imm
pub mod Least
pub mod Closed
pub mod Table
