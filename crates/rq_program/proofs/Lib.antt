mod Rows
mod DataRows
mod Losses
