pub mod Lexicographic
pub mod Perturbed
pub mod RatioSpill
pub mod Laws
pub mod Parts
pub mod Basis
pub mod BasisSpills
pub mod PerturbedLoss
