pub mod Chosen
pub mod Passed
pub mod Solving
pub mod Chains
pub mod Along
pub mod Bounds
