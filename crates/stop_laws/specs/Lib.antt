pub mod NeededStops
pub mod IntervalStops
