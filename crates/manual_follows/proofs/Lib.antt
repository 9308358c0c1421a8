-- Facts of the crate: the groups in A5's order, and the theorem.
pub mod DpImmediate
pub mod Extra
pub mod LoadStore
pub mod Media
pub mod Rows
pub mod Targets
pub mod Transfers
pub mod Coprocessor
pub mod Unconditional
pub mod Follows
