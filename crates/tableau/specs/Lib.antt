pub mod Bodies
pub mod Solving
pub mod Walking
pub mod Solves
