pub mod Bytes
pub mod Choice
pub mod Every
pub mod Field
pub mod Layout
pub mod Only
pub mod Refusal
pub mod Signed
