pub mod Rules
pub mod Predictions
pub mod Views
pub mod Leaks
pub mod Runs
pub mod Bodies
pub mod Promise
pub mod Telling
