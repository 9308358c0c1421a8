pub mod Ways
pub mod Looking
pub mod Judging
pub mod Unique
pub mod Small
