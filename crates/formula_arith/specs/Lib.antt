pub mod Arithmetics
pub mod Codes
pub mod Values
pub mod Evaluations
pub mod Texts
pub mod Machine
