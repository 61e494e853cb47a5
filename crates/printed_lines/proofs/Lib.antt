pub mod Points
pub mod Published
pub mod Pins
