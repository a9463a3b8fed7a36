pub mod ByClap
pub mod Counts
pub mod Pieces
pub mod ItemTests
pub mod Requested
pub mod Parts
pub mod Orders
pub mod ShortWords
pub mod RankRequests
pub mod FewQuantiles
mod GivenOptions
pub mod Samples
pub mod TestedColumns
