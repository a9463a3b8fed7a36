-- what a job asks for, and what is right for its input or why there is none
pub mod Asks
pub mod Fit
pub mod Halts
pub mod Intervals
pub mod Lowest
pub mod PathHalts
pub mod Paths
pub mod Predicted
pub mod RankProblems
pub mod Ranks
pub mod Stops
pub mod Tested
-- what is right for its bytes
pub mod Answers
pub mod Digits
pub mod Certificates
pub mod Certifying
pub mod Checks
pub mod Jobs
pub mod SampleAsks
pub use Rattle.rank_inversion.specs.declared.column_test.Asked
