pub mod Rows
pub mod Gates
