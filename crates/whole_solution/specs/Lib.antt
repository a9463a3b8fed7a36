pub mod Outside
pub mod Halving
pub mod Columns
pub mod Ranges
pub mod Weighing
pub mod Far
pub mod Standing
