pub mod Bits
pub mod Tallies
pub mod Refusals
