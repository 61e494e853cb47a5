pub mod Steps
pub mod Complete
