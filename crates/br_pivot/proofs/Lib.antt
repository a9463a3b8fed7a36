pub mod Limits
pub mod Found
pub mod Halts
