pub mod Processes
pub mod Stops
pub mod Answers
pub use Rattle.tableau.specs.Solves
