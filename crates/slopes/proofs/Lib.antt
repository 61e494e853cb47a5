pub mod Zipped
pub mod Unique
