pub mod Knots
pub mod Smoothings
pub mod Operations
pub mod Faults
pub mod Shapes
pub mod Variation
pub mod Views
