pub mod Trails
pub mod Halts
pub mod Carried
pub mod Walks
