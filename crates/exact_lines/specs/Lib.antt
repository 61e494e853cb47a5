pub mod Limit
pub mod Logarithm
pub mod Line
pub mod Saturation
pub mod Border
pub mod Letter
