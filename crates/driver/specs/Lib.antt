pub mod Replays
pub mod Jobs
