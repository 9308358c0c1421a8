pub mod Tables
pub mod Rounds
pub mod Filling
pub mod Unique
