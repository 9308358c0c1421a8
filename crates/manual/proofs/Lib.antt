-- Facts of the crate: laws for every group, and the groups of A5.2 that go by registers.
pub mod Fields
pub mod Forms
pub mod Shifts
pub mod Pages
pub mod DpRegister
pub mod Control
