-- Facts of the crate: what a row tells, which rows stay, the pages, and the theorems.
pub mod Told
pub mod Rows
pub mod Pages
pub mod Drawn
pub mod Near
pub mod Departing
pub mod Followed
pub mod Transfers
pub mod Nearby
pub mod HomeReads
pub mod Homes
