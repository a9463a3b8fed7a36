pub mod Slack
pub mod Uniqueness
pub mod Counts
pub mod Monotonicity
pub mod Equivariance
pub mod Others
