pub mod Laws
pub mod Steps
pub mod Doubling
pub mod Refusals
pub mod Quanta
pub mod Ladders
pub mod Waits
pub mod Doublings
