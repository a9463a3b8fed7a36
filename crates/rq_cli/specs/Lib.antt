pub mod Codes
pub mod Outcomes
pub mod Steps
