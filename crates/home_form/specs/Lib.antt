pub mod Home
pub mod Changes
pub mod HomeForm
pub mod Kept
