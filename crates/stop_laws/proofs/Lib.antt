pub mod Spilled
pub mod Needed
pub mod IntervalsSpilled
pub mod IntervalsNeeded
