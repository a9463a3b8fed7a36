pub mod Integrals
pub mod Laws
pub mod Rows
pub mod Scores
pub mod Trapezoids
pub mod Wilcoxon
