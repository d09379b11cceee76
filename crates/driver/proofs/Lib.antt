pub mod Driving
pub mod ListsRead
pub mod Opened
pub mod Places
