mod Values
mod Distinct
pub mod Overflowing
mod Lists
mod Looked
pub mod Variations
mod Widths
