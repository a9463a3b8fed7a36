pub mod Laid
pub mod Laws
pub mod LowestSteps
pub mod Merging
pub mod Predictions
pub mod Rearranged
