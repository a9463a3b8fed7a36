pub mod Programs
pub mod Faults
pub mod Costs
pub mod Losses
