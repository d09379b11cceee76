pub mod Additions
pub mod Answering
