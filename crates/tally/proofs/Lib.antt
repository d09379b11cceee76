pub mod Searches
pub mod Bounding
pub mod Judging
