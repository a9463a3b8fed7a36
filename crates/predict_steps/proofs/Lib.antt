pub mod Covered
pub mod Merged
pub mod Placed
pub mod Predicted
pub mod Rearranged
