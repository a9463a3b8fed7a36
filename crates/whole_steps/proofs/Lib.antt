-- lines, and the order of the rows that move on them
pub mod Signs
pub mod Movers
pub mod Ties
pub mod Held
pub mod Leading
pub mod Bounded
pub mod FirstLaws
pub mod Coordinates
pub mod FarRows
pub mod Later
-- walks: the next breakpoint, and the row that enters there
pub mod Parts
pub mod Crossed
pub mod Lines
-- the solving step
pub mod Scales
pub mod SlopeNumbers
pub mod Marks
pub mod Passed
