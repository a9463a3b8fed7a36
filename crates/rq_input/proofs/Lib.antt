mod Inputs
pub mod Intercepts
mod Predicting
pub mod Lists
pub mod PlainInputs
pub mod TestedInputs
