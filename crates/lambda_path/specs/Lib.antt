pub mod Paths
pub mod Faults
pub mod Steps
pub mod Rows
pub mod Laws
