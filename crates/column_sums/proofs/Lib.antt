pub mod Farthest
pub mod Unique
