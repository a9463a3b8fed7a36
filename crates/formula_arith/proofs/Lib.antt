pub mod Runs
pub mod Overflows
pub mod Progress
