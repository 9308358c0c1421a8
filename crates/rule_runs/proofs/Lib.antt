pub mod Tests
pub mod Exact
pub mod Verdicts
