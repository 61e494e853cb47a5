pub mod Fraction
pub mod Arithmetic
