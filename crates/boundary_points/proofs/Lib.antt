pub mod Published
pub mod Points
pub mod Saturation
pub mod Premises
