pub mod Rows
pub mod Inverses
