pub mod Replies
pub mod Traces
pub mod Refusals
pub mod Settings
pub mod Buckets
pub mod Raises
pub mod Beginnings
pub mod Places
