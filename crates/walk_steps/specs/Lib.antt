pub mod Leads
pub mod Steps
