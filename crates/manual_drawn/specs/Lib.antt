pub mod Exceptions
pub mod HomeReads
