pub mod Decode
pub mod Cases
