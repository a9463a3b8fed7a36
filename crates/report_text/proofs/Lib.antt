pub mod Appends
pub mod Duals
pub mod Marks
pub mod Numbered
pub mod RowMarks
pub mod ScoreLines
