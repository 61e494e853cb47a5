pub mod Shape
pub mod Bytes
