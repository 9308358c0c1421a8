pub mod Text
pub mod Put
pub mod Entry
pub mod Fits
