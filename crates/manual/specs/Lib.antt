-- What a reader has to believe of the manual, in its order.
pub mod Pattern
pub mod A5
pub mod Reads
pub mod A8
pub mod ShouldBe
pub mod Departures
pub mod Stands
