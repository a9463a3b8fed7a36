-- bytes and their faults
pub mod Faults
-- certificates that are written
pub mod Certificates
pub mod Sound
-- outcomes of a run
pub mod NeededOutcomes
pub mod Completeness
pub mod PathReports
pub mod TestReports
-- what a report has inside
pub mod Reports
-- what it says of all coefficients
pub mod LeastReports
pub mod OnlyFits
-- what it says of the records, and which other responses have the same
pub mod ReadFits
pub mod SteadyReports
