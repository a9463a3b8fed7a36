-- what the definition of ℚ needs of whole numbers: their laws, and identities by computing
pub mod Integers
pub mod Solver
-- the field of fractions, and its order as an answer
pub mod Rational
pub mod Order
-- fractions as they are written
pub mod Fraction
-- sums by index
pub mod IntegerSums
pub mod RationalSums
pub mod WholeLists
pub mod Terms
pub mod Matrices
pub mod Exchange
pub mod Spans
pub mod Selections
pub mod Pairs
