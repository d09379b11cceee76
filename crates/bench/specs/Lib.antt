pub mod Benches
pub mod Plans
pub mod Earliest
pub mod Shifts
