-- numbers beyond the fractions, and what is lost there
pub mod OrderedRings
pub mod Losses
-- the fractions are such numbers
pub mod Fractions
-- and so are the real numbers
pub mod Sequences
pub mod Distances
pub mod Operations
pub mod Reals
pub mod RealLaws
-- what the laws say
pub mod Laws
