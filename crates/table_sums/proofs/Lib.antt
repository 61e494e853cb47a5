pub mod Constant
pub mod Rows
pub mod Unique
