pub mod FaultText
pub mod Fields
pub mod Marks
pub mod Names
pub mod Quantities
pub mod ReportText
pub mod Said
