pub mod Restricted
pub mod Bounds
pub mod Gram
pub mod Shown
pub mod Certified
pub mod Laws
