pub mod Together
pub mod Apart
mod Worked
pub mod Unique
