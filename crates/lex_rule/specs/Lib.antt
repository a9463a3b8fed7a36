pub mod Scan
pub mod Divisor
pub mod Compared
