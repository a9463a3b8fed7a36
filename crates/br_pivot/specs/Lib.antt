pub use Rattle.tableau.specs.Solves
pub mod Solutions
pub mod Answers
pub mod Reached
