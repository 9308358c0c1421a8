pub mod Numbers
pub mod Digest
