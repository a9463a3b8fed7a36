pub mod Asked
mod Readable
pub mod Causes
pub mod Certifying
pub mod Costs
pub mod Fits
pub mod Listed
pub mod Pathing
pub mod Predicting
pub mod Scoring
pub mod Testing
