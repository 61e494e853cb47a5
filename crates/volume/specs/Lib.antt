pub mod Equation
pub mod State
