pub mod Decided
mod Wide
mod Parts
mod Agrees
mod Compared
mod Priced
mod Rays
mod Extracts
pub mod Worths
pub mod Shown
pub mod Wholes
mod Shared
mod Later
mod Ranks
pub mod Held
mod All
