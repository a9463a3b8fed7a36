-- lines, and the order of the rows that move on them
pub mod Lines
pub mod Ties
pub mod Bounds
-- walks: the next breakpoint, and the row that enters there
pub mod Stations
pub mod Crossings
pub mod Entering
-- the solving step
pub mod Quantiles
pub mod Leavings
pub mod Rivals
pub mod Passing
