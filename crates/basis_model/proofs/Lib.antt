pub mod LexicographicLaws
pub mod PerturbedLaws
pub mod Signs
pub mod Ratios
pub mod Sums
pub mod Ordered
