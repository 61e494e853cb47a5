pub mod Shape
pub mod Sums
