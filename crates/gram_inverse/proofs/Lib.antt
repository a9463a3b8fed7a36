mod Lists
mod Borders
mod GreedyRows
mod Steps
mod Symmetry
mod Zeros
