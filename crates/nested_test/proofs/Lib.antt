mod Statistics
mod Pairs
mod Restrictions
mod FullRank
