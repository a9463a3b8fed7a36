-- which coefficients minimise, and whether others do
pub mod Uniqueness
-- the observations by their sides
pub mod Counts
-- the process as the quantile rises
pub mod Monotonicity
-- other responses and other columns
pub mod Equivariance
