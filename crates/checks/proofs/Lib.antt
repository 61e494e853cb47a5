pub mod Points
pub mod Promise
pub mod Unique
