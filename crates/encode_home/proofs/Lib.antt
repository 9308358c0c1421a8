-- Facts of the crate that belong to no one function.
pub mod Puts
pub mod Leads
pub mod BackMisc
pub mod BackHalfword
pub mod BackMultiply
pub mod BackLdst
pub mod BackExtra
pub mod BackBlock
pub mod BackBranch
pub mod BackUnconditional
pub mod BackCoproc
pub mod BackMedia
pub mod BackImm
pub mod BackDp
pub mod BackDpReg
pub mod BackDpImm
pub mod Same
