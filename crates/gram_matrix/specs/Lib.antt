pub mod Grams
pub mod GramRows
