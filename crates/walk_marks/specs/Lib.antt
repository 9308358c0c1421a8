pub mod Marks
pub mod Looking
pub mod Stores
