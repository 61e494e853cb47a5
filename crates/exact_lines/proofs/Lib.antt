pub mod Series
pub mod Pins
pub mod Published
pub mod Ends
pub mod Meaning
