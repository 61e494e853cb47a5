pub mod Equation
