pub mod Scaled
pub mod WholeRanks
pub mod Laws
pub mod Repeated
