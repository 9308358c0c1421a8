pub mod Row
pub mod Shifts
