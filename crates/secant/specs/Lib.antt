pub mod Secant
