pub mod Scanned
pub mod Values
pub mod Signs
pub mod Comparisons
pub mod Entries
