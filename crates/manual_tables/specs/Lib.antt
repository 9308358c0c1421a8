pub mod Titles
pub mod Columns
