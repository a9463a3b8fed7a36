pub mod Values
pub mod Optimal
pub mod Lengths
pub mod Exact
pub mod Grams
pub mod GramStarts
pub mod Shown
pub mod Certified
