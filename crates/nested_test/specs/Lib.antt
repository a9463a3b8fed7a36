pub mod Nested
pub mod Restricted
pub mod Pairs
pub mod Laws
