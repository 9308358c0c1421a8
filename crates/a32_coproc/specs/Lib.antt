pub mod Coproc
