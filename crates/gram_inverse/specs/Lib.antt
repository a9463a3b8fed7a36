pub mod Products
pub mod Columns
pub mod Borders
pub mod Inverses
