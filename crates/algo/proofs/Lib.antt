pub mod Loops
pub mod Sums
pub mod Settled
pub mod Step
pub mod Pin
pub mod Unique
