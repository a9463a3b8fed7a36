pub mod Bases
pub mod Solutions
