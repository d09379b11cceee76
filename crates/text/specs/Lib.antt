pub mod Refusals
pub mod Files
pub mod Filling
pub mod Lists
pub mod ListWriting
pub mod Schedules
pub mod Pairs
