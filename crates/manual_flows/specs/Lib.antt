pub mod Opens
pub mod Flows
pub mod Cases
