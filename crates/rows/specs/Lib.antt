pub mod Fields
pub mod Columns
pub mod Faults
pub mod Rows
