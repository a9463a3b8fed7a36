pub mod Records
pub mod Faults
pub mod Columns
pub mod Reading
pub mod Cells
pub mod Tables
pub mod Views
pub mod WellFormed
