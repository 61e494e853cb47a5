pub mod Reach
pub mod Powers
