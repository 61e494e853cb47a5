pub mod Saturation
pub mod Quotients
