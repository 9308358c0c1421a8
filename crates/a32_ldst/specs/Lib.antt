pub mod Mem
pub mod ExtraLdst
pub mod Ldst
