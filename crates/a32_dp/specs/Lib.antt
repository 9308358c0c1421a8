pub mod Names
pub mod DpReg
pub mod DpImm
