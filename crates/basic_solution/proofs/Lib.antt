pub mod Rows
pub mod Filled
pub mod Exits
pub mod RowTotals
pub mod RowSides
pub mod Agreeing
