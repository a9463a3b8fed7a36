mod Paths
mod Overflowing
mod Rows
